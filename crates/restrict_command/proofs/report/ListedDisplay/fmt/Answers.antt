use Rattle.std.proofs.Common.{◌≡◌, ℕ, ◌+◌, true, false, [], ◌∷◌, ◌++◌, codes, decimal, sym, refl, ap, ◌∙◌, append-nil, add-one, arith}
use Rattle.std.proofs.Output.{writes_in_calls_nil, has_written_append, has_written_of_eq}
use Rattle.std.proofs.lemmas.Fmt.{decimal_digit}
use Rattle.std.proofs.lemmas.Bool.{cond-true, cond-false}
use Rattle.family.specs.Rights.{has_right}
use Rattle.restrict_command.specs.Report.{rights_below}
use Rattle.restrict_command.proofs.report.ListedDisplay.fmt.Goals as goal
use Rattle.restrict_command.proofs.report.ListedDisplay.fmt.Goals.{then-has_right+in_ok-write, else-has_right}

-- one right more
below_none : (set : ℕ) → rights_below set 0 ≡ []
unfolding rights_below
below_none set = refl

below_held : (set k : ℕ) → has_right set k ≡ true
    → rights_below set k ++ (32 ∷ (48 + k) ∷ []) ≡ rights_below set (k + 1)
unfolding rights_below
below_held set k h =
    rw add-one (ap (λ t. rights_below set k ++ t)
    (sym (cond-true (has_right set k) (32 ∷ (48 + k) ∷ []) [] h)))

below_missing : (set k : ℕ) → has_right set k ≡ false
    → rights_below set k ≡ rights_below set (k + 1)
unfolding rights_below
below_missing set k h =
    rw add-one (sym (ap (λ t. rights_below set k ++ t)
    (cond-false (has_right set k) (32 ∷ (48 + k) ∷ []) [] h) ∙ append-nil (rights_below set k)))

pub loop-k-init : goal.loop-k-init
loop-k-init g c = λ p.
    has_written_of_eq g.W.Write.write_str_gives _ _ _ _ (sym (below_none c.args.self.now.set))
    (record {
      wrote = writes_in_calls_nil g.W.Write.write_str_gives c.args.f.now.writer;
      plain =
          p;
    })

pub loop-k-preserved : goal.loop-k-preserved
loop-k-preserved g c = λ p.
    let took = g.W.Write.write_str_gives in
    let set : ℕ = c.args.self.now.set in
    let k : ℕ = c.loop-k.k-counter in
    let before = c.loop-k.invariant p in
    let held : has_right set k ≡ c.has_right.result = sym c.has_right.ensures in
    elim c.if-has_right.branch [
      | then-has_right+in_ok-write w ↦
          let wrote = w.in_ok-write.ensures.writes before.plain refl in
          let text : rights_below set k ++ (codes " " ++ decimal k) ≡ rights_below set (k + 1) =
          ap (λ t. rights_below set k ++ (32 ∷ t)) (decimal_digit k (omega arith))
          ∙ below_held set k (held ∙ w.if-has_right.true) in
          rw w.f-is (has_written_of_eq took _ _ _ _ text
          (has_written_append took _ _ _ _ _ before wrote))
      | else-has_right w ↦ rw w.f-is
          (has_written_of_eq took _ _ _ _ (below_missing set k (held ∙ w.if-has_right.false))
          before)
    ]
