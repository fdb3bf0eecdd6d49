-- Over every run the rows of directories are what was entered, so that look-ups and walks found
-- what is left of that.
use Rattle.std.proofs.Common.{◌≡◌, ℕ, ◌<◌, List, [], ◌∷◌, Ok, Err, Result, sym, refl, ap, ◌∙◌, subst, inl, inr}
use Rattle.family.specs.Commuting.{Family}
use Rattle.holder.specs.Dropping.{check_number, within_mask}
use Rattle.holder.specs.declared.capability.Capability.{Capability}
use Rattle.holder.specs.declared.capability.Port.{Port}
use Rattle.store.specs.Requests.{Update, Ask, query, update, Told, found}
use Rattle.store.specs.Serve.{outcome_of, reply_to, scratch_after}
use Rattle.store.specs.State.{State}
use Rattle.store.specs.declared.error.StoreRefusal.{StoreRefusal}
use Rattle.runs.specs.Grants.{Grant}
use Rattle.runs.specs.History.{Call, call_with, Event, state_after, history, answer_in, outcome_in}
use Rattle.runs.specs.Entries.{names_asked}
use Rattle.runs.proofs.Effects.{effect_of}
use Rattle.runs.proofs.Invariant.{Tied, refusal_leaves, tied_run}
use Rattle.runs.proofs.Shapes.{Looked, Looks}
use Rattle.runs.proofs.TellFacts.{answer_right, query_finds}
use Rattle.runs.proofs.Traced.{RowsBrought, LedTo, event, rows_stay, rows_step, query_enters, query_led, update_finds}
use Rattle.runs.proofs.Entered.{decision}
use Rattle.store.specs.Rules.{rule_of}

module _ (F : Family) (port : Port) (first : Grant) where
  -- one request more
  module _ (es : List Event) (s : State) (tied : Tied F port first es s)
      (brought : RowsBrought es s) (c : Capability) (x : List ℕ) where
    updated : (u : Update) (answer : Result Told StoreRefusal)
        → (outcome_of s c u x).answer ≡ answer
        → RowsBrought (event es s brought c x (update u) answer ∷ es) ((outcome_of s c u x).after)
    updated u (Ok told) e =
        rows_step es s brought c x u told
        (answer_right s c tied.few_files tied.few_directories u x told e).0
        (effect_of s (call_with c (update u) x) tied.few_files tied.few_directories told e)
    updated u (Err r) e =
        subst (RowsBrought (event es s brought c x (update u) (Err r) ∷ es))
        (sym (refusal_leaves s (scratch_after s (rule_of (update u)) x) (decision s c u x) r e))
        (rows_stay es s brought (event es s brought c x (update u) (Err r)) (λ o bs. refl))

    rows_after : (ask : Ask)
        → RowsBrought (event es s brought c x ask (answer_in s (call_with c ask x)) ∷ es)
        ((outcome_in s (call_with c ask x)).after)
    rows_after (query q) =
        rows_stay es s brought (event es s brought c x (query q) (reply_to s c q))
        (query_enters es s brought c x q (reply_to s c q))
    rows_after (update u) = updated u (outcome_of s c u x).answer refl

    led_now : (ask : Ask) (d : Capability) → answer_in s (call_with c ask x) ≡ Ok (found d)
        → LedTo es s brought c (names_asked ask) d
    led_now (query q) d e =
        query_led es s brought c x q (found d)
        (query_finds s c tied.few_files tied.few_directories q (found d) e) d refl
    led_now (update u) d e =
        update_finds es s brought c x u (found d)
        (answer_right s c tied.few_files tied.few_directories u x (found d) e).0 d refl

    looked_now : (ask : Ask) (d : Capability) → answer_in s (call_with c ask x) ≡ Ok (found d)
        → Looked F (event es s brought c x ask (answer_in s (call_with c ask x))) es d
    looked_now ask d e =
        let led = led_now ask d e in
        record {
          brought = led.source;
          mask = led.mask;
          narrow = led.narrow;
          low = subst (λ x. check_number led.source < x.modulus) tied.family led.low;
          way = led.way;
          given = led.given ∙ ap (λ x. within_mask x.function led.source led.mask) tied.family;
        }

    looks_after : (ask : Ask) → Looks F es
        → Looks F (event es s brought c x ask (answer_in s (call_with c ask x)) ∷ es)
    looks_after ask looks e before (inl (now, past)) d answer =
        subst (λ b. Looked F e b d) past
        (subst (λ x. Looked F x es d) now (looked_now ask d (ap (λ x. x.answer) now ∙ answer)))
    looks_after ask looks e before (inr then) d answer = looks e before then d answer

  -- every run
  module _ (start : State) (tied : Tied F port first [] start) (brought : RowsBrought [] start)
    where
      pub rows_run : (calls : List Call)
          → RowsBrought (history start calls) (state_after start calls)
      unfolding state_after history
      rows_run [] = brought
      rows_run (r ∷ calls) =
          rows_after (history start calls) (state_after start calls)
          (tied_run F port first start tied calls) (rows_run calls) r.presented r.scratch r.ask

      pub looks_run : (calls : List Call) → Looks F (history start calls)
      unfolding state_after history
      looks_run [] = λ e before never d answer. absurd never
      looks_run (r ∷ calls) =
          looks_after (history start calls) (state_after start calls)
          (tied_run F port first start tied calls) (rows_run calls) r.presented r.scratch r.ask
          (looks_run calls)
