use Rattle.std.proofs.Common.{◌≡◌, ◌<◌, ◌∙◌, rules}
use Rattle.family.specs.Commuting.{IsCommuting}
use Rattle.secret.specs.Accepted.{is_accepted}
use Rattle.secret.proofs.AcceptFacts.{accepted_outside, accepted_plain}
use Rattle.secret.proofs.secret.Secret.accepts.Goals as goal

pub returns : goal.returns
returns g c =
    let met = g.met.F.CommutingFamily in
    let own = c.args.family.now in
    let F = g.F.CommutingFamily.meaning own in
    let laws : IsCommuting F = met.laws own in
    let s = c.args.self.value in
    let rights = c.args.rights.bits in
    let v = c.args.check.value in
    let byte : rights < 256 = search rules in
    let value : c.matches.result ≡ is_accepted F s rights v =
    accepted_outside F s rights c.number.result v c.matches.result byte c.number.ensures
    c.matches.ensures in
    record { value = value; plain = λ h. value ∙ accepted_plain F laws s rights v h }
