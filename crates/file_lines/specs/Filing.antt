-- The text that is printed where lines are filed as runs, read back, and the first is revoked.
use Rattle.std.specs.Prelude.{◌≡◌, ℕ, ◌+◌, List, [], ◌∷◌, ◌++◌, None, Some, Option, Err, Ok, Result, IfSome}
use Rattle.std.specs.Io.KnownBytes.{Appends}
use Rattle.holder.specs.declared.capability.Capability.{Capability}
use Rattle.holder.specs.declared.error.HolderRefusal.{HolderRefusal}
use Rattle.store.specs.Requests.{Told, granted}
use Rattle.store.specs.declared.error.StoreRefusal.{StoreRefusal}
use Rattle.text.specs.Lines.{lines_in}
use Rattle.file_lines.specs.Printing.{action_line, answer_text, reply_text, restriction_text}
use Rattle.file_lines.specs.Registry.{ActionOutcome, RegistryState, filing_outcome, reader_of, reading_reply, revoking_outcome}
use Rattle.file_lines.specs.declared.action.Action.TheVariants.{File, Open, Read, Restrict, Revoke}
use Rattle.file_lines.specs.declared.reply.Reply.TheVariants.{Given}
use Rattle.file_lines.specs.declared.run.Run.{Run}

-- the run of a line, if its owner capability could be restricted
abbrev pub run_with : ℕ → Capability → Result Capability HolderRefusal → Option Run
run_with line owner (Ok reader) = Some (record { line = line; owner = owner; reader = reader })
run_with line owner (Err e) = None

-- the run of a line, by the answer to its filing
abbrev pub run_told : ℕ → RegistryState → Result Told StoreRefusal → Option Run
run_told line s (Ok (granted owner)) = run_with line owner (reader_of s.store.kept owner)
run_told line s other = None

abbrev pub run_of : ℕ → ActionOutcome → Option Run
run_of line filed = run_told line filed.after filed.answer

-- the action of restricting, behind that of filing
abbrev pub restricting_text : ℕ → RegistryState → Result Told StoreRefusal → List ℕ
restricting_text line s (Ok (granted owner)) =
    action_line (Restrict line) (restriction_text (reader_of s.store.kept owner))
restricting_text line s other = []

-- both actions of a line
abbrev pub filing_text : ℕ → ActionOutcome → List ℕ
filing_text line filed =
    action_line (File line) (answer_text filed.answer)
    ++ restricting_text line filed.after filed.answer

-- a run is read with the capability that was handed out for it
unfoldable pub reading_text : RegistryState → Run → List ℕ
reading_text s run = action_line (Read run.line) (answer_text (reading_reply s run.reader))

-- a run is revoked, and read as before
abbrev pub revoking_text : RegistryState → Run → List ℕ
revoking_text s run =
    action_line (Revoke run.line) (answer_text (revoking_outcome s run.owner).answer)
    ++ reading_text (revoking_outcome s run.owner).after run

-- what comes of lines: the text, the runs that were filed, and the registry afterwards
pub record Filing : Type 0 where
  pub text : List ℕ
  pub runs : List Run
  pub after : RegistryState

-- a run more in front, if there is one
abbrev pub with_run : Option Run → List Run → List Run
with_run None runs = runs
with_run (Some run) runs = run ∷ runs

-- what comes of the line of this number, and then of those that follow
abbrev pub in_front : ℕ → ActionOutcome → Filing → Filing
in_front line filed following = record {
  text = filing_text line filed ++ following.text;
  runs = with_run (run_of line filed) following.runs;
  after = following.after;
}

-- what comes of all lines, of which the first has this number
abbrev pub filing : RegistryState → ℕ → List (List ℕ) → Filing
filing s line [] = record { text = []; runs = []; after = s }
filing s line (bytes ∷ lines) =
    in_front line (filing_outcome s bytes) (filing (filing_outcome s bytes).after (line + 1) lines)

-- runs are read, one after the other
abbrev pub readings_text : RegistryState → List Run → List ℕ
readings_text s [] = []
readings_text s (run ∷ runs) = reading_text s run ++ readings_text s runs

-- the first of them is revoked, if there is one
abbrev pub first_revoking_text : RegistryState → List Run → List ℕ
first_revoking_text s [] = []
first_revoking_text s (run ∷ runs) = revoking_text s run

-- the text behind that of the lines
abbrev pub closing_text : RegistryState → List Run → List ℕ
closing_text s runs = readings_text s runs ++ first_revoking_text s runs

-- the whole text: the opening, what comes of the lines, and what follows
abbrev pub whole_text : RegistryState → List (List ℕ) → List ℕ
whole_text s lines =
    action_line Open (reply_text (Given s.owner))
    ++ ((filing s 1 lines).text ++ closing_text (filing s 1 lines).after (filing s 1 lines).runs)

-- where the bytes of the input are known, all their lines are filed: their text is printed, and
-- these are the runs and the registry afterwards
pub record FilesAll
    (s : RegistryState) (input was is : Option (List ℕ)) (runs : List Run) (after : RegistryState)
    : Type 0 where
  pub all : IfSome input (λ xs.
      Appends was is (filing s 1 (lines_in xs)).text
      × ((filing s 1 (lines_in xs)).runs ≡ runs)
      × ((filing s 1 (lines_in xs)).after ≡ after))
