use Rattle.std.proofs.Common.{◌≡◌, rules, ap, ◌∙◌, add-one, cond, sym}
use Rattle.family.specs.Commuting.{IsCommuting, apply}
use Rattle.family.specs.Rights.{has_right}
use Rattle.family.specs.Thin.{thin_once, thin}
use Rattle.family.proofs.ThinFacts.{thin_none, thin_more, thin_asked, thin_unasked, thin_laws}
use Rattle.family.proofs.FitFacts.{fit_laws}
use Rattle.family.proofs.rights.thin_number.Goals as goal
use Rattle.family.proofs.rights.thin_number.Goals.{then-has_right, else-has_right}

pub loop-k-init : goal.loop-k-init
loop-k-init g c = rw thin_none

pub loop-k-preserved : goal.loop-k-preserved
loop-k-preserved g c =
    let m = g.F.CommutingFamily in
    let f = apply (m.meaning c.args.family.now) in
    let v = c.loop-k.result in
    let k = c.loop-k.k in
    rw (add-one, thin_more) (elim c.if-has_right.branch [
      | then-has_right w ↦ w.result-is ∙ w.apply-result.ensures
          ∙ sym (ap (λ b. cond b (f k v) v) (sym c.has_right.ensures ∙ w.if-has_right.true))
          ∙ ap (thin_once f (has_right c.args.set) k) c.loop-k.invariant
      | else-has_right w ↦ w.result-is
          ∙ sym (ap (λ b. cond b (f k v) v) (sym c.has_right.ensures ∙ w.if-has_right.false))
          ∙ ap (thin_once f (has_right c.args.set) k) c.loop-k.invariant
    ])

pub returns : goal.returns
returns g c =
    let m = g.F.CommutingFamily in
    let met = g.met.F.CommutingFamily in
    let own = c.args.family.now in
    let F = m.meaning own in
    let family : IsCommuting F = met.laws own in
    let value : c.loop-k.result ≡ thin (apply F) c.args.v (has_right c.args.set) = search rules in
    record {
      value = value;
      plain = λ h. value ∙ thin_asked F family c.args.v (has_right c.args.set) h;
      unasked = λ h. value ∙ thin_unasked F (has_right c.args.set) c.args.v h;
      thinning = thin_laws F family;
      fitness = fit_laws F;
    }
