-- What is printed step by step, and line by line.
use Rattle.std.proofs.Common.{◌≡◌, ◌∙◌, ℕ, ◌+◌, ◌<◌, suc, Bool, true, false, List, [], ◌∷◌, ◌++◌, None, Some, Ok, Err, Option, Result, IfSome, OnOk, append_assoc, append-nil, ap, arith, drop, length, refl, sym, subst}
use Rattle.std.proofs.Math.ListN.{get_or}
use Rattle.std.proofs.Math.Seq.{drop-cons}
use Rattle.std.proofs.KnownBytes.{Appends-nil, Appends-trans}
use Rattle.std.specs.Io.KnownBytes.{Appends}
use Rattle.text.specs.Lines.{behind, is_any, line_in, lines_in}
use Rattle.text.proofs.LinesParted.{lines_parted}
use Rattle.file_lines.specs.Filing.{Filing, FilesAll, closing_text, filing, filing_text, in_front, reading_text, readings_text, run_of, whole_text, with_run}
use Rattle.file_lines.specs.Printing.{action_line, reply_text}
use Rattle.file_lines.specs.Registry.{ActionOutcome, RegistryState, filing_outcome}
use Rattle.file_lines.specs.declared.run.Run.{Run}
use Rattle.file_lines.specs.declared.reply.Reply.TheVariants.{Given}
use Rattle.file_lines.specs.declared.action.Action.TheVariants.{Open}

-- what was printed, and then what a step prints
pub printed_then : {A E : Type 0} (r : Result A E) (was between is : Option (List ℕ))
    (xs ys : List ℕ)
    → Appends was between xs → OnOk r (Appends between is ys) → OnOk r (Appends was is (xs ++ ys))
printed_then (Ok x) was between is xs ys first then_these =
    Appends-trans was between is xs ys first then_these
printed_then (Err e) was between is xs ys first then_these = tt

-- what comes of lines behind those of which this was printed, and these runs were filed
abbrev pub behind_these : List ℕ → List Run → Filing → Filing
behind_these bytes runs f =
    record { text = bytes ++ f.text; runs = runs ++ f.runs; after = f.after }

-- what was printed and filed so far, and what is still to come, are together what comes of all
-- lines
pub record FiledSoFar (s : RegistryState) (input was : Option (List ℕ)) (now : RegistryState)
    (line : ℕ) (left is : Option (List ℕ)) (runs : List Run) : Type 0 where
  pub bytes : List ℕ
  pub printed : Appends was is bytes
  pub still : IfSome input
      (λ xs. (ys : List ℕ) × (left ≡ Some ys)
      × (filing s 1 (lines_in xs) ≡ behind_these bytes runs (filing now line (lines_in ys))))

-- before the first line
pub nothing_yet : (s : RegistryState) (input was : Option (List ℕ))
    → FiledSoFar s input was s 1 input was []
nothing_yet s input was = record { bytes = []; printed = Appends-nil was; still = all input }
  where
    all : (input : Option (List ℕ))
        → IfSome input (λ xs. (ys : List ℕ) × (input ≡ Some ys)
        × (filing s 1 (lines_in xs) ≡ behind_these [] [] (filing s 1 (lines_in ys))))
    all None = tt
    all (Some xs) = (xs, refl, refl)

-- a run in front, apart from those behind it
one_run : (run : Option Run) (runs : List Run) → with_run run runs ≡ with_run run [] ++ runs
one_run None runs = refl
one_run (Some run) runs = refl

-- a line is done once it is printed, and its run added
one_done : (bytes : List ℕ) (runs : List Run) (line : ℕ) (t : ActionOutcome) (f : Filing)
    → behind_these bytes runs (in_front line t f)
    ≡ behind_these (bytes ++ filing_text line t) (runs ++ with_run (run_of line t) []) f
one_done bytes runs line t f =
    let text : bytes ++ (filing_text line t ++ f.text) ≡ (bytes ++ filing_text line t) ++ f.text =
    sym (append_assoc bytes (filing_text line t) f.text) in
    let filed : runs ++ with_run (run_of line t) f.runs
    ≡ (runs ++ with_run (run_of line t) []) ++ f.runs =
    ap (λ l. runs ++ l) (one_run (run_of line t) f.runs)
    ∙ sym (append_assoc runs (with_run (run_of line t) []) f.runs) in
    ap (λ (x : List ℕ). made x (runs ++ with_run (run_of line t) f.runs)) text
    ∙ ap (λ (x : List Run). made ((bytes ++ filing_text line t) ++ f.text) x) filed
  where
    made : List ℕ → List Run → Filing
    made x y = record { text = x; runs = y; after = f.after }

-- one more line
pub line_done : (s : RegistryState) (input was : Option (List ℕ)) (now : RegistryState) (line : ℕ)
    (left is : Option (List ℕ)) (runs : List Run)
    (after : RegistryState) (rest more : Option (List ℕ)) (bytes : List ℕ) (any : Bool)
    (run : Option Run)
    → FiledSoFar s input was now line left is runs → any ≡ true
    → IfSome left (λ xs. any ≡ is_any xs) → IfSome left (λ xs. bytes ≡ line_in xs)
    → IfSome left (λ xs. rest ≡ Some (behind xs))
    → Appends is more (filing_text line (filing_outcome now bytes))
    → run ≡ run_of line (filing_outcome now bytes) → after ≡ (filing_outcome now bytes).after
    → FiledSoFar s input was after (line + 1) rest more (runs ++ with_run run [])
line_done s input was now line left is runs after rest more bytes any run so_far is_line tells is_it
    behind_it adds gives goes =
    record {
      bytes = so_far.bytes ++ told;
      printed = Appends-trans was is more so_far.bytes told so_far.printed adds;
      still = all input so_far.still;
    }
  where
    told : List ℕ
    told = filing_text line (filing_outcome now bytes)

    parted : (ys : List ℕ) → true ≡ is_any ys → bytes ≡ line_in ys
        → filing now line (lines_in ys)
        ≡ in_front line (filing_outcome now bytes) (filing after (line + 1) (lines_in (behind ys)))
    parted [] some here = absurd (cc)
    parted (y ∷ ys) some here =
        ap (filing now line) (lines_parted y ys)
        ∙ ap (λ b. in_front line (filing_outcome now b)
        (filing (filing_outcome now b).after (line + 1) (lines_in (behind (y ∷ ys))))) (sym here)
        ∙ ap (λ t. in_front line (filing_outcome now bytes)
        (filing t (line + 1) (lines_in (behind (y ∷ ys))))) (sym goes)

    all : (input : Option (List ℕ))
        → IfSome input (λ xs. (ys : List ℕ) × (left ≡ Some ys)
        × (filing s 1 (lines_in xs)
        ≡ behind_these so_far.bytes runs (filing now line (lines_in ys))))
        → IfSome input (λ xs. (ys : List ℕ) × (rest ≡ Some ys)
        × (filing s 1 (lines_in xs)
        ≡ behind_these (so_far.bytes ++ told) (runs ++ with_run run [])
        (filing after (line + 1) (lines_in ys))))
    all None h = tt
    all (Some xs) (ys, known, same) =
        let tells_here : any ≡ is_any ys =
        subst (λ o. IfSome o (λ xs. any ≡ is_any xs)) known tells in
        let line_here : bytes ≡ line_in ys =
        subst (λ o. IfSome o (λ xs. bytes ≡ line_in xs)) known is_it in (
          behind ys,
          subst (λ o. IfSome o (λ xs. rest ≡ Some (behind xs))) known behind_it,
          same ∙ ap (behind_these so_far.bytes runs)
              (parted ys (sym is_line ∙ tells_here) line_here)
              ∙ one_done so_far.bytes runs line (filing_outcome now bytes)
              (filing after (line + 1) (lines_in (behind ys)))
              ∙ ap (λ r. behind_these (so_far.bytes ++ told) (runs ++ with_run r [])
              (filing after (line + 1) (lines_in (behind ys)))) (sym gives),
        )

-- where no line is left, all are filed
pub all_done : (s : RegistryState) (input was : Option (List ℕ)) (now : RegistryState) (line : ℕ)
    (left is : Option (List ℕ)) (runs : List Run) (any : Bool)
    → FiledSoFar s input was now line left is runs → any ≡ false
    → IfSome left (λ xs. any ≡ is_any xs) → FilesAll s input was is runs now
all_done s None was now line left is runs any so_far none tells = record { all = tt }
all_done s (Some xs) was now line left is runs any so_far none tells =
    record { all = at so_far.still }
  where
    over : (ys : List ℕ) → false ≡ is_any ys
        → filing now line (lines_in ys) ≡ record { text = []; runs = []; after = now }
    over [] nothing = refl
    over (y ∷ ys) nothing = absurd (cc)

    at : (ys : List ℕ) × (left ≡ Some ys)
        × (filing s 1 (lines_in xs)
        ≡ behind_these so_far.bytes runs (filing now line (lines_in ys)))
        → Appends was is (filing s 1 (lines_in xs)).text × ((filing s 1 (lines_in xs)).runs ≡ runs)
        × ((filing s 1 (lines_in xs)).after ≡ now)
    at (ys, known, same) =
        let tells_here : any ≡ is_any ys =
        subst (λ o. IfSome o (λ xs. any ≡ is_any xs)) known tells in
        let whole : filing s 1 (lines_in xs)
        ≡ behind_these so_far.bytes runs (record { text = []; runs = []; after = now }) =
        same ∙ ap (behind_these so_far.bytes runs) (over ys (sym none ∙ tells_here)) in (
          subst (Appends was is) (sym (ap (λ (f : Filing). f.text) whole ∙ append-nil so_far.bytes))
              so_far.printed,
          ap (λ (f : Filing). f.runs) whole ∙ append-nil runs,
          ap (λ (f : Filing). f.after) whole,
        )

-- the opening, all lines, and what is printed once they are at their end
pub whole_printed : {A E : Type 0} (r : Result A E) (s : RegistryState)
    (input was opened between is : Option (List ℕ)) (runs : List Run) (after : RegistryState)
    → Appends was opened (action_line Open (reply_text (Given s.owner)))
    → FilesAll s input opened between runs after
    → OnOk r (Appends between is (closing_text after runs))
    → OnOk r (IfSome input (λ xs. Appends was is (whole_text s (lines_in xs))))
whole_printed (Err e) s input was opened between is runs after first files last = tt
whole_printed (Ok x) s None was opened between is runs after first files last = tt
whole_printed (Ok x) s (Some xs) was opened between is runs after first files last =
    let f = filing s 1 (lines_in xs) in
    let closing : Appends between is (closing_text f.after f.runs) =
    subst (λ rs. Appends between is (closing_text f.after rs)) (sym files.all.1)
    (subst (λ t. Appends between is (closing_text t runs)) (sym files.all.2) last) in
    Appends-trans was opened is _ _ first (Appends-trans opened between is _ _ files.all.0 closing)

-- what was read so far, and what is still to be read, are together all runs read
pub record ReadSoFar (s : RegistryState) (was : Option (List ℕ)) (runs left : List Run)
    (is : Option (List ℕ)) : Type 0 where
  pub bytes : List ℕ
  pub printed : Appends was is bytes
  pub still : readings_text s runs ≡ bytes ++ readings_text s left

-- before the first one
pub none_read : (s : RegistryState) (was : Option (List ℕ)) (runs : List Run)
    → ReadSoFar s was runs runs was
none_read s was runs = record { bytes = []; printed = Appends-nil was; still = refl }

-- one run more is read
pub one_read : (s : RegistryState) (was : Option (List ℕ)) (runs : List Run) (i : ℕ)
    (is more : Option (List ℕ)) (none : Run)
    → ReadSoFar s was runs (drop i runs) is → i < length runs
    → Appends is more (reading_text s (get_or runs i none))
    → ReadSoFar s was runs (drop (i + 1) runs) more
one_read s was runs i is more none so_far within adds =
    record {
      bytes = so_far.bytes ++ reading_text s run;
      printed = Appends-trans was is more so_far.bytes (reading_text s run) so_far.printed adds;
      still =
          so_far.still ∙ ap (λ l. so_far.bytes ++ readings_text s l) next
          ∙ sym (append_assoc so_far.bytes (reading_text s run)
          (readings_text s (drop (i + 1) runs)));
    }
  where
    run : Run
    run = get_or runs i none

    next : drop i runs ≡ run ∷ drop (i + 1) runs
    next = let more : suc i ≡ i + 1 = omega arith in
        subst (λ j. drop i runs ≡ run ∷ drop j runs) more (drop-cons runs i none within)

-- where none is left, all are read
pub all_read : (s : RegistryState) (was : Option (List ℕ)) (runs left : List Run)
    (is : Option (List ℕ)) → ReadSoFar s was runs left is → left ≡ []
    → Appends was is (readings_text s runs)
all_read s was runs left is so_far none =
    subst (Appends was is) (sym
    (so_far.still ∙ ap (λ l. so_far.bytes ++ readings_text s l) none ∙ append-nil so_far.bytes))
    so_far.printed
