-- Two checks with one number are one check: that it is narrow has one proof.
use Rattle.std.proofs.Common.{◌≡◌, ◌^◌, ◌<◌, mod-eq_of_lt}
use Rattle.std.proofs.Math.Bridge.{le_prop}
use mathlib.Core.HLevel.{is_prop→PathP}
use Rattle.holder.specs.Checks.{check_of, object_of}
use Rattle.holder.specs.declared.check.Check.{Check}
use Rattle.holder.specs.declared.object.Object.{Object}

pub same_check : (a b : Check) → a.value ≡ b.value → a ≡ b
same_check a b e =
    λ i. record {
      value = e i;
      narrow =
          is_prop→PathP (λ j. e j < 2 ^ 48) (λ j. le_prop) a.narrow b.narrow i;
    }

-- the check of a check's number is that check
pub check_again : (c : Check) → check_of c.value ≡ c
check_again c = same_check (check_of c.value) c (mod-eq_of_lt c.narrow)

-- and so with objects
pub same_object : (a b : Object) → a.value ≡ b.value → a ≡ b
same_object a b e =
    λ i. record {
      value = e i;
      narrow =
          is_prop→PathP (λ j. e j < 2 ^ 24) (λ j. le_prop) a.narrow b.narrow i;
    }

pub object_again : (o : Object) → object_of o.value ≡ o
object_again o = same_object (object_of o.value) o (mod-eq_of_lt o.narrow)
