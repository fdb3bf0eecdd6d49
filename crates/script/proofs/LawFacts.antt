-- The laws of scripts.
use Rattle.std.proofs.Common.{◌≡◌, ◌≢◌, ℕ, suc, List, [], ◌∷◌, length, get_or, Some, None, Option, Ok, Err, Result, refl, sym, ap, ◌∙◌}
use Rattle.std.proofs.lemmas.List.{get_or-set_other}
use Rattle.refusal.specs.Chains.{refused_as}
use Rattle.refusal.specs.declared.Refusal.{Refusal}
use Rattle.refusal.proofs.ChainFacts.{never_ok}
use Rattle.holder.specs.declared.capability.Capability.{Capability}
use Rattle.store.specs.Outcomes.{Change, outcome_by}
use Rattle.store.specs.Order.{is_sized, result_of}
use Rattle.store.specs.Requests.{Told, query, update}
use Rattle.store.specs.Rules.{rule_of}
use Rattle.store.specs.Serve.{change_at, scratch_after}
use Rattle.store.specs.declared.error.StoreRefusal.{StoreRefusal}
use Rattle.lines.specs.Reading.{task_in}
use Rattle.lines.specs.Refusals.{bad_line}
use Rattle.lines.specs.Steps.{TaskValues}
use Rattle.lines.specs.declared.error.LineRefusal.{LineRefusal}
use Rattle.lines.specs.declared.pocket.Pocket.{Pocket}
use Rattle.script.specs.AnswerLines.{told_line}
use Rattle.script.specs.Deeds.{Deed, ask, deed_of, drop, give}
use Rattle.script.specs.Laws.{InOrder, LawsOfScripts, OneForEach, OnlyTheTarget, RefusedChangesNothing, RefusedFirst}
use Rattle.script.specs.Pockets.{capability_in}
use Rattle.script.specs.Scripts.{after_first, answers, before, closed, during, outcome_at, stage_after}
use Rattle.script.specs.Sessions.{LineOutcome, SessionState}
use Rattle.script.specs.Tasks.{capability_told, clean, deed_outcome, or_refusal, outcome_of_line, pockets_filled, session_filled, store_outcome, task_outcome}

in_session : (s : SessionState) (lines : List (List ℕ))
    → length (answers (during s) lines) ≡ length lines
in_session s [] = refl
in_session s (line ∷ lines) = ap suc (in_session (outcome_of_line s line).after lines)

one_for_each : OneForEach
one_for_each = record {
  in_session = in_session;
  from_the_first = λ m line lines o e.
      ap (λ r. length (told_line (after_first r).told ∷ answers (after_first r).after lines)) e
      ∙ ap suc (in_session o.after lines);
}

none_when_closed : (lines : List (List ℕ)) → answers closed lines ≡ []
none_when_closed [] = refl
none_when_closed (line ∷ lines) = refl

stays_closed : (lines : List (List ℕ)) → stage_after closed lines ≡ closed
stays_closed [] = refl
stays_closed (line ∷ lines) = stays_closed lines

refused_first : RefusedFirst
refused_first m line lines refusal e =
    ap (λ r. told_line (after_first r).told ∷ answers (after_first r).after lines) e
    ∙ ap (λ later. told_line (Err refusal) ∷ later) (none_when_closed lines)

in_order : InOrder
in_order s [] later = refl
in_order (before m) (line ∷ lines) later =
    ap (λ more. told_line (outcome_at (before m) line).told ∷ more)
    (in_order (outcome_at (before m) line).after lines later)
in_order (during s) (line ∷ lines) later =
    ap (λ more. told_line (outcome_at (during s) line).told ∷ more)
    (in_order (outcome_at (during s) line).after lines later)
in_order closed (line ∷ lines) later =
    sym (ap (λ s. answers s later) (stays_closed lines) ∙ none_when_closed later)

-- a refusal that came early changed nothing, so what follows decides
refusal_unchanged : {A : Type 0} (s : SessionState) (e : Refusal) (r : Result A LineRefusal)
    (next : A → LineOutcome)
    → ((a : A) → (next a).told ≡ Err e → (next a).after ≡ s) → (or_refusal s r next).told ≡ Err e
    → (or_refusal s r next).after ≡ s
refusal_unchanged s e (Ok a) next h told = h a told
refusal_unchanged s e (Err x) next h told = refl

store_unchanged : (s : SessionState) (e : Refusal) (scratch : List ℕ)
    (d : Result Change StoreRefusal)
    → (store_outcome s (outcome_by s.store scratch d)).told ≡ Err e
    → (store_outcome s (outcome_by s.store scratch d)).after ≡ s
store_unchanged s e scratch (Ok change) told = never_ok e change.told (sym told)
store_unchanged s e scratch (Err x) told = refl

deed_unchanged : (s : SessionState) (c : Capability) (deed : Deed) (e : Refusal)
    → (deed_outcome s c deed).told ≡ Err e → (deed_outcome s c deed).after ≡ s
deed_unchanged s c (ask (query q)) e told = refl
deed_unchanged s c (ask (update u)) e told =
    store_unchanged s e (scratch_after s.store (rule_of (update u)) clean)
    (result_of s.store (is_sized s.store (rule_of (update u)) clean) (rule_of (update u)) c
    (change_at s.store u)) told
deed_unchanged s c (drop right) e told = refl
deed_unchanged s c give e told = refl

task_unchanged : (s : SessionState) (task : TaskValues) (e : Refusal)
    → (task_outcome s task).told ≡ Err e → (task_outcome s task).after ≡ s
task_unchanged s task e = refusal_unchanged s e (capability_in s.pockets task.presented) _ (λ c.
    refusal_unchanged s e (deed_of s.pockets task.step) _ (λ deed told.
    ap (session_filled (deed_outcome s c deed).after task.target) told
    ∙ deed_unchanged s c deed e told))

refused_changes_nothing : RefusedChangesNothing
refused_changes_nothing s line e =
    refusal_unchanged s e (refused_as bad_line (task_in line)) (task_outcome s)
    (λ task. task_unchanged s task e)

-- a pocket that is not the target
module _ (i : ℕ) (to : Option Pocket)
    (other : (pocket : Pocket) → to ≡ Some pocket → i ≢ pocket.index) where
  filled_elsewhere : (pockets : List (Option Capability)) (c : Option Capability)
      → get_or (pockets_filled pockets to c) i None ≡ get_or pockets i None
  filled_elsewhere pockets c = by to other c
    where
      by : (to : Option Pocket) → ((pocket : Pocket) → to ≡ Some pocket → i ≢ pocket.index)
          → (c : Option Capability)
          → get_or (pockets_filled pockets to c) i None ≡ get_or pockets i None
      by (Some p) other (Some c) = get_or-set_other pockets p.index i (Some c) None (other p refl)
      by (Some p) other None = refl
      by None other c = refl

  session_elsewhere : (s : SessionState) (told : Result Told Refusal)
      → get_or (session_filled s to told).pockets i None ≡ get_or s.pockets i None
  session_elsewhere s (Ok told) = filled_elsewhere s.pockets (capability_told told)
  session_elsewhere s (Err e) = refl

same_pockets : (s : SessionState) (c : Capability) (deed : Deed)
    → (deed_outcome s c deed).after.pockets ≡ s.pockets
same_pockets s c (ask a) = refl
same_pockets s c (drop right) = refl
same_pockets s c give = refl

refusal_elsewhere : {A : Type 0} (i : ℕ) (s : SessionState) (r : Result A LineRefusal)
    (next : A → LineOutcome)
    → ((a : A) → get_or (next a).after.pockets i None ≡ get_or s.pockets i None)
    → get_or (or_refusal s r next).after.pockets i None ≡ get_or s.pockets i None
refusal_elsewhere i s (Ok a) next h = h a
refusal_elsewhere i s (Err e) next h = refl

only_the_target : OnlyTheTarget
only_the_target s task i other =
    refusal_elsewhere i s (capability_in s.pockets task.presented) _ (λ c.
    refusal_elsewhere i s (deed_of s.pockets task.step) _ (λ deed.
    let o : LineOutcome = deed_outcome s c deed in
    session_elsewhere i task.target other o.after o.told
    ∙ ap (λ pockets. get_or pockets i None) (same_pockets s c deed)))

pub laws_of_scripts : LawsOfScripts
laws_of_scripts = record {
  one_for_each = one_for_each;
  refused_first = refused_first;
  in_order = in_order;
  refused_changes_nothing = refused_changes_nothing;
  only_the_target = only_the_target;
}
