-- What reading a line comes to, where the bytes that the reader has left are known.
use Rattle.std.specs.Prelude.{◌≡◌, ℕ, Bool, List, ◌++◌, Some, None, Option, IfSome}
use Rattle.std.specs.Option.{option_map}
use Rattle.text.specs.Lines.{behind, is_any, line_in}
use Rattle.console.specs.Lines.{line_front}
use Rattle.console.specs.declared.line.Line.{Line}

-- the bytes that are kept of a line
abbrev pub line_bytes : Line → List ℕ
line_bytes line = line.bytes.items

-- whether there was a line, what is kept of it, and the bytes that are left behind it
pub record NextLine : Type 0 where
  pub any : Bool
  pub line : List ℕ
  pub rest : List ℕ

abbrev pub next_line : Bool → List ℕ → List ℕ → NextLine
next_line any line rest = record { any = any; line = line; rest = rest }

-- reading on in a line of which some bytes were read
abbrev pub next_behind : List ℕ → List ℕ → NextLine
next_behind before xs =
    next_line (is_any (before ++ xs)) (line_front (before ++ line_in xs)) (behind xs)

-- what is still to come of it: all, or nothing where its end was met
abbrev pub to_come : Option Bool → List ℕ → List ℕ → NextLine
to_come None line rest = next_behind line rest
to_come (Some any) line rest = next_line any line rest

-- a part was read, and together with what is still to come the reading is the same
abbrev pub ReadsOn : Option (List ℕ) → Option (List ℕ) → Option Bool → List ℕ → List ℕ → Type 0
ReadsOn was is end before after =
    IfSome was (λ xs. option_map (to_come end after) is ≡ Some (next_behind before xs))
