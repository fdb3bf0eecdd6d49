-- Whether a presented capability is admitted: port, object, check, then kind and right.
use Rattle.std.specs.Prelude.{ℕ, List, Ok, Result}
use Rattle.std.specs.Str.{bytes_eq}
use Rattle.refusal.specs.Chains.{unless, given, and_then}
use Rattle.family.specs.Commuting.{Family}
use Rattle.holder.specs.Dropping.{check_number}
use Rattle.holder.specs.declared.capability.Capability.{Capability}
use Rattle.secret.specs.Accepted.{is_accepted}
use Rattle.secret.specs.declared.secret.Secret.{Secret}
use Rattle.memory.specs.Soundness.{Content}
use Rattle.admission.specs.Needs.{fits_kinds, have_common_right}
use Rattle.admission.specs.Objects.{target_at, secret_of}
use Rattle.admission.specs.declared.error.Denial.{Denial}
use Rattle.admission.specs.declared.error.Denial.TheVariants.{WrongPort, NoSuchObject, WrongCheck, WrongKind, RightMissing}
use Rattle.admission.specs.declared.target.Target.{Target}
use Rattle.admission.specs.declared.need.Need.{Need}

-- the object of an accepted capability: a live object of this port, and the check its secret gives
abbrev pub authentic_target : Family → List ℕ → Secret → Content → Capability → Result Target Denial
authentic_target F port own m c =
    unless (bytes_eq c.port.bytes port) WrongPort
    (given (target_at m c.object.value) NoSuchObject (λ target.
    unless (is_accepted F (secret_of own target).value c.rights.bits (check_number c)) WrongCheck
    (Ok target)))

-- an object may be asked so with these rights
abbrev pub authorized_target : Need → Target → ℕ → Result Target Denial
authorized_target need target rights =
    unless (fits_kinds need.kinds target) WrongKind
    (unless (have_common_right rights need.rights) RightMissing (Ok target))

-- the object of a capability that is admitted to a request
abbrev pub admitted_target : Family → List ℕ → Secret → Content → Need → Capability
    → Result Target Denial
admitted_target F port own m need c =
    and_then (authentic_target F port own m c)
    (λ target. authorized_target need target c.rights.bits)
