-- What is printed of a script, line by line.
use Rattle.std.proofs.Common.{◌≡◌, ℕ, ◌<◌, ◌≤◌, Bool, true, false, ◌&&◌, List, [], ◌∷◌, ◌++◌, None, Some, Option, Ok, Err, Result, IfErr, IfOk, OnOk, IsErrAnd, MatchResult, IfSome, cond, length, refl, sym, ap, subst, ◌∙◌, arith, take_all, append_assoc, append-nil, length-take, ⊎_elim}
use Rattle.std.proofs.lemmas.Bool.{cases_lt, lt-leb}
use Rattle.std.proofs.KnownBytes.{Appends-kept, Appends-nil, Appends-trans}
use Rattle.std.specs.Io.KnownBytes.{Appends, Keeps}
use Rattle.std.specs.Option.{option_map}
use Rattle.refusal.specs.Chains.{and_then, given, refused_as, unless}
use Rattle.std.specs.Str.{bytes_eq}
use Rattle.lines.specs.Lines.{has_no_empty, is_printable, word_at, words_in}
use Rattle.lines.specs.Reading.{misread_at, store_from, store_in, task_from, task_in}
use Rattle.lines.specs.Refusals.{bad_line, line_refusal}
use Rattle.lines.specs.Verbs.{store_word, verb_of}
use Rattle.script.specs.AnswerLines.{told_line}
use Rattle.script.specs.Opening.{store_opening}
use Rattle.script.specs.Scripts.{Stage, after_first, answers, before, closed, during, is_closed, outcome_at, script_outcome}
use Rattle.script.specs.Sessions.{LineOutcome}
use Rattle.script.specs.Tasks.{or_refusal, task_outcome}
use Rattle.text.specs.Lines.{behind, is_any, line_in, lines_in}
use Rattle.text.proofs.LinesParted.{lines_parted}
use Rattle.console.specs.Lines.{line_front, text_of}
use Rattle.console.specs.Printing.{PrintsAnswers, PrintsFront, WhereUnread, lines_left}
use Rattle.std.specs.declared.io.Error.{Error}
use Rattle.console.specs.declared.error.RunError.{RunError}
use Rattle.console.specs.declared.error.RunError.TheVariants.{Input, Output}

-- ---- results

-- what holds of an answer that came through with another error
pub came_through : {A E D : Type 0} (r : Result A E) (told : Result A D) (Q : E → D → Type 0)
    (x : A) (P : A → Type 0)
    → MatchResult r (λ y. told ≡ Ok y) (λ e. IsErrAnd told (Q e)) → told ≡ Ok x → IfOk r P → P x
came_through (Ok y) told Q x P cases was holds = let same : y ≡ x = cc in subst P same holds
came_through (Err e) told Q x P cases was holds = absurd (rw was at cases)

-- what holds anyway holds of an answer
pub on_ok : {A E P : Type 0} (r : Result A E) → P → OnOk r P
on_ok (Ok x) holds = holds
on_ok (Err e) holds = tt

-- ---- errors

-- an error of the reader
pub unread_error : {A : Type 0} (P : Type 0) (r : Result A Error) (told : Result A RunError)
    (e : RunError)
    → MatchResult r (λ y. told ≡ Ok y) (λ x. IsErrAnd told (λ d. d ≡ Input x)) → told ≡ Err e → P
    → WhereUnread e P
unread_error P (Ok y) told e cases was holds = absurd (cc)
unread_error P (Err x) told e cases was holds = let same : e ≡ Input x = rw was at cases in
    subst (λ d. WhereUnread d P) (sym same) holds

-- an error of the writer
pub unwritten : {A : Type 0} (P : Type 0) (r : Result A Error) (told : Result A RunError)
    (e : RunError)
    → MatchResult r (λ y. told ≡ Ok y) (λ x. IsErrAnd told (λ d. d ≡ Output x)) → told ≡ Err e
    → WhereUnread e P
unwritten P (Ok y) told e cases was = absurd (cc)
unwritten P (Err x) told e cases was = let same : e ≡ Output x = rw was at cases in
    subst (λ d. WhereUnread d P) (sym same) tt

pub any_unwritten : {A : Type 0} (P : Type 0) (r : Result A Error) (told : Result A RunError)
    → MatchResult r (λ y. told ≡ Ok y) (λ x. IsErrAnd told (λ d. d ≡ Output x))
    → IfErr told (λ e. WhereUnread e P)
any_unwritten P r (Ok y) cases = tt
any_unwritten P r (Err e) cases = unwritten P r (Err e) e cases refl

-- what holds where an error is the writer's alone
pub by_writer : {A : Type 0} (P : Type 0) (told : Result A RunError) (e : RunError)
    → IfErr told (λ e. WhereUnread e ⊥) → told ≡ Err e → WhereUnread e P
by_writer P told e holds was = at e (rw was at holds)
  where
    at : (e : RunError) → WhereUnread e ⊥ → WhereUnread e P
    at (Input x) none = absurd none
    at (Output x) none = tt

-- ---- lines that are too long

long_task : (line : List ℕ) → 255 < length line → task_in line ≡ Err (misread_at 0)
long_task line long =
    ap (λ b. unless (b && (is_printable line && has_no_empty (words_in line))) (misread_at 0)
    (given (verb_of (word_at (words_in line) 1)) (misread_at 1)
    (λ verb. task_from verb (words_in line)))) (lt-leb (length line) 255 long)

long_store : (line : List ℕ) → 255 < length line → store_in line ≡ Err (misread_at 0)
long_store line long =
    ap (λ b. unless (b && (is_printable line && has_no_empty (words_in line))) (misread_at 0)
    (unless (bytes_eq store_word (word_at (words_in line) 1)) (misread_at 1)
    (store_from (words_in line)))) (lt-leb (length line) 255 long)

-- lines that are both too long come to the same
both_long : (s : Stage) (line other : List ℕ) → 255 < length line → 255 < length other
    → outcome_at s line ≡ outcome_at s other
both_long (before m) line other long more =
    ap (λ r. after_first (and_then (refused_as line_refusal (refused_as bad_line r))
    (store_opening m))) (long_store line long ∙ sym (long_store other more))
both_long (during s) line other long more =
    ap (λ r. let o : LineOutcome = or_refusal s (refused_as bad_line r) (task_outcome s) in
    script_outcome o.told (during o.after)) (long_task line long ∙ sym (long_task other more))
both_long closed line other long more = refl

-- the front of a line that is too long is too long as well
outcome_at_front : (s : Stage) (line : List ℕ) → outcome_at s (line_front line) ≡ outcome_at s line
outcome_at_front s line = ⊎_elim long short (cases_lt 255 (length line))
  where
    long : 255 < length line → outcome_at s (line_front line) ≡ outcome_at s line
    long more = both_long s (line_front line) line (omega (arith, length-take 256 line)) more

    short : length line ≤ 255 → outcome_at s (line_front line) ≡ outcome_at s line
    short fits = ap (outcome_at s) (take_all 256 line (omega arith))

-- ---- answers

one_more : (b : Bool) (told : List ℕ) (lines : List (List ℕ)) → b ≡ false
    → text_of (cond b [] (told ∷ lines)) ≡ text_of (cond b [] (told ∷ [])) ++ text_of lines
one_more true told lines takes = absurd (cc)
one_more false told lines takes = sym (append_assoc told (10 ∷ []) (text_of lines))

-- the answer to a line is that to what was kept of it, and the others follow
text_parted : (s : Stage) (line : List ℕ) (lines : List (List ℕ)) → is_closed s ≡ false
    → text_of (answers s (line ∷ lines))
    ≡ text_of (answers s (line_front line ∷ []))
    ++ text_of (answers (outcome_at s (line_front line)).after lines)
text_parted s line lines takes =
    ap (λ p. text_of (cond (is_closed s) [] (told_line p.told ∷ answers p.after lines)))
    (sym (outcome_at_front s line))
    ∙ one_more (is_closed s) (told_line (outcome_at s (line_front line)).told)
    (answers (outcome_at s (line_front line)).after lines) takes

no_more : (s : Stage) (lines : List (List ℕ)) → is_closed s ≡ true → answers s lines ≡ []
no_more s [] shut = refl
no_more s (line ∷ lines) shut =
    ap (λ b. cond b [] (told_line (outcome_at s line).told ∷ answers (outcome_at s line).after
    lines)) shut

-- ---- all lines

-- what is printed so far, and what is still to be printed, are together the answers to all lines
pub record Printed (s : Stage) (input output : Option (List ℕ)) (now : Stage)
    (left held : Option (List ℕ)) : Type 0 where
  pub bytes : List ℕ
  pub printed : Appends output held bytes
  pub still : IfSome input
      (λ xs. (ys : List ℕ) × (left ≡ Some ys)
      × (text_of (answers s (lines_in xs)) ≡ bytes ++ text_of (answers now (lines_in ys)))
      × (lines_left s (lines_in xs) ≡ lines_left now (lines_in ys)))

pub nothing_printed : (s : Stage) (input output : Option (List ℕ))
    → Printed s input output s input output
nothing_printed s input output =
    record { bytes = []; printed = Appends-nil output; still = all input }
  where
    all : (input : Option (List ℕ))
        → IfSome input (λ xs. (ys : List ℕ) × (input ≡ Some ys)
        × (text_of (answers s (lines_in xs)) ≡ [] ++ text_of (answers s (lines_in ys)))
        × (lines_left s (lines_in xs) ≡ lines_left s (lines_in ys)))
    all None = tt
    all (Some xs) = (xs, refl, refl, refl)

-- one more line, and then its answer
pub line_printed : (s : Stage) (input output : Option (List ℕ)) (now after : Stage)
    (left rest held more : Option (List ℕ)) (kept : List ℕ) (any : Bool)
    → Printed s input output now left held → is_closed now ≡ false → any ≡ true
    → IfSome left (λ xs. any ≡ is_any xs) → IfSome left (λ xs. kept ≡ line_front (line_in xs))
    → IfSome left (λ xs. rest ≡ Some (behind xs))
    → Appends held more (text_of (answers now (kept ∷ []))) → after ≡ (outcome_at now kept).after
    → Printed s input output after rest more
line_printed s input output now after left rest held more kept any so_far takes is_line tells is
    behind_it adds goes =
    record {
      bytes = so_far.bytes ++ told;
      printed = Appends-trans output held more so_far.bytes told so_far.printed adds;
      still = all input so_far.still;
    }
  where
    told : List ℕ
    told = text_of (answers now (kept ∷ []))

    parted : (ys : List ℕ) → true ≡ is_any ys → kept ≡ line_front (line_in ys)
        → text_of (answers now (lines_in ys))
        ≡ told ++ text_of (answers after (lines_in (behind ys)))
    parted [] some line = absurd (cc)
    parted (y ∷ ys) some line =
        ap (λ lines. text_of (answers now lines)) (lines_parted y ys)
        ∙ text_parted now (line_in (y ∷ ys)) (lines_in (behind (y ∷ ys))) takes
        ∙ ap (λ k. text_of (answers now (k ∷ []))
        ++ text_of (answers (outcome_at now k).after (lines_in (behind (y ∷ ys))))) (sym line)
        ∙ ap (λ t. told ++ text_of (answers t (lines_in (behind (y ∷ ys))))) (sym goes)

    -- the line was read, so it is not among those that are left
    unread_on : (ys : List ℕ) → true ≡ is_any ys → kept ≡ line_front (line_in ys)
        → lines_left now (lines_in ys) ≡ lines_left after (lines_in (behind ys))
    unread_on [] some line = absurd (cc)
    unread_on (y ∷ ys) some line =
        ap (lines_left now) (lines_parted y ys)
        ∙ ap (λ b. cond b (line_in (y ∷ ys) ∷ lines_in (behind (y ∷ ys)))
        (lines_left (outcome_at now (line_in (y ∷ ys))).after (lines_in (behind (y ∷ ys)))))
        takes
        ∙ ap (λ p. lines_left p.after (lines_in (behind (y ∷ ys))))
        (sym (outcome_at_front now (line_in (y ∷ ys))))
        ∙ ap (λ k. lines_left (outcome_at now k).after (lines_in (behind (y ∷ ys)))) (sym line)
        ∙ ap (λ t. lines_left t (lines_in (behind (y ∷ ys)))) (sym goes)

    all : (input : Option (List ℕ))
        → IfSome input (λ xs. (ys : List ℕ) × (left ≡ Some ys)
        × (text_of (answers s (lines_in xs))
        ≡ so_far.bytes ++ text_of (answers now (lines_in ys)))
        × (lines_left s (lines_in xs) ≡ lines_left now (lines_in ys)))
        → IfSome input (λ xs. (ys : List ℕ) × (rest ≡ Some ys)
        × (text_of (answers s (lines_in xs))
        ≡ (so_far.bytes ++ told) ++ text_of (answers after (lines_in ys)))
        × (lines_left s (lines_in xs) ≡ lines_left after (lines_in ys)))
    all None h = tt
    all (Some xs) (ys, known, same, same_left) =
        let tells_here : any ≡ is_any ys =
        subst (λ o. IfSome o (λ xs. any ≡ is_any xs)) known tells in
        let line_here : kept ≡ line_front (line_in ys) =
        subst (λ o. IfSome o (λ xs. kept ≡ line_front (line_in xs))) known is in (
          behind ys,
          subst (λ o. IfSome o (λ xs. rest ≡ Some (behind xs))) known behind_it,
          same ∙ ap (λ l. so_far.bytes ++ l) (parted ys (sym is_line ∙ tells_here) line_here)
              ∙ sym
              (append_assoc so_far.bytes told (text_of (answers after (lines_in (behind ys))))),
          same_left ∙ unread_on ys (sym is_line ∙ tells_here) line_here,
        )

-- what is printed so far is the front of the answers to all lines
pub front_printed : (s : Stage) (input output : Option (List ℕ)) (now : Stage)
    (left held : Option (List ℕ)) → Printed s input output now left held
    → PrintsFront s input output held
front_printed s None output now left held so_far = tt
front_printed s (Some xs) output now left held so_far = at so_far.still
  where
    at : (ys : List ℕ) × (left ≡ Some ys)
        × (text_of (answers s (lines_in xs)) ≡ so_far.bytes ++ text_of (answers now (lines_in ys)))
        × (lines_left s (lines_in xs) ≡ lines_left now (lines_in ys))
        → PrintsFront s (Some xs) output held
    at (ys, known, same, same_left) =
        (so_far.bytes, text_of (answers now (lines_in ys)), (so_far.printed, same))

-- where no line is answered any more, all are, and the others are left
pub all_printed : (s : Stage) (input output : Option (List ℕ)) (now : Stage)
    (left rest held last : Option (List ℕ)) → Printed s input output now left held
    → IfSome left (λ ys. (answers now (lines_in ys) ≡ [])
    × (option_map lines_in rest ≡ Some (lines_left now (lines_in ys)))) → Keeps held last
    → PrintsAnswers s input rest output last
all_printed s None output now left rest held last so_far none kept = tt
all_printed s (Some xs) output now left rest held last so_far none kept = at so_far.still
  where
    at : (ys : List ℕ) × (left ≡ Some ys)
        × (text_of (answers s (lines_in xs)) ≡ so_far.bytes ++ text_of (answers now (lines_in ys)))
        × (lines_left s (lines_in xs) ≡ lines_left now (lines_in ys))
        → Appends output last (text_of (answers s (lines_in xs)))
        × (option_map lines_in rest ≡ Some (lines_left s (lines_in xs)))
    at (ys, known, same, same_left) =
        let here : (answers now (lines_in ys) ≡ [])
        × (option_map lines_in rest ≡ Some (lines_left now (lines_in ys))) =
        subst (λ o. IfSome o (λ ys. (answers now (lines_in ys) ≡ [])
        × (option_map lines_in rest ≡ Some (lines_left now (lines_in ys))))) known none in (
          subst (Appends output last)
              (sym (same ∙ ap (λ l. so_far.bytes ++ text_of l) here.0 ∙ append-nil so_far.bytes))
              (Appends-kept output held last so_far.bytes so_far.printed kept),
          here.1 ∙ ap Some (sym same_left),
        )

all_left : (s : Stage) (lines : List (List ℕ)) → is_closed s ≡ true → lines_left s lines ≡ lines
all_left s [] shut = refl
all_left s (line ∷ lines) shut =
    ap (λ b. cond b (line ∷ lines) (lines_left (outcome_at s line).after lines)) shut

pub closed_none : (s : Stage) (left : Option (List ℕ)) → is_closed s ≡ true
    → IfSome left (λ ys. (answers s (lines_in ys) ≡ [])
    × (option_map lines_in left ≡ Some (lines_left s (lines_in ys))))
closed_none s None shut = tt
closed_none s (Some ys) shut =
    (no_more s (lines_in ys) shut, ap Some (sym (all_left s (lines_in ys) shut)))

pub empty_none : (s : Stage) (left rest : Option (List ℕ)) (any : Bool) → any ≡ false
    → IfSome left (λ xs. any ≡ is_any xs) → IfSome left (λ xs. rest ≡ Some (behind xs))
    → IfSome left (λ ys. (answers s (lines_in ys) ≡ [])
    × (option_map lines_in rest ≡ Some (lines_left s (lines_in ys))))
empty_none s None rest any none tells goes = tt
empty_none s (Some []) rest any none tells goes = (refl, ap (option_map lines_in) goes)
empty_none s (Some (y ∷ ys)) rest any none tells goes = absurd (cc)
