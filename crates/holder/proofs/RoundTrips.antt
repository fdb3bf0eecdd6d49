-- Sixteen bytes, taken apart and put together again: each list is spelled out, and the rest is
-- computed.
use Rattle.std.proofs.Common.{◌≡◌, ℕ, List, [], ◌∷◌, ◌++◌, map, length, get_or, Ok, sym, refl, ap, ◌∙◌, mod-eq_of_lt}
use Rattle.std.specs.List.{range_with_len}
use Rattle.holder.specs.Bytes.{bytes_of, number}
use Rattle.holder.specs.Checks.{check_of, object_of}
use Rattle.holder.specs.Layout.{capability_bytes, capability_of, read_capability}
use Rattle.holder.specs.declared.capability.Capability.{Capability}
use Rattle.holder.specs.declared.check.Check.{Check}
use Rattle.holder.specs.declared.object.Object.{Object}
use Rattle.holder.proofs.ByteFacts.{Bytes, length-bytes_of, number-bytes_of, number_lt, there_and_back}
use Rattle.holder.proofs.CheckFacts.{check_again, object_again}
use Rattle.holder.proofs.Spelled.{spelled}

-- a list's elements at the places 0 to w − 1
abbrev pub at : List ℕ → ℕ → List ℕ
at bs w = map (λ i. get_or bs i 0) (range_with_len 0 w)

module _ (c : Capability) (six : length c.port.bytes ≡ 6) where
  abbrev object : List ℕ
  object = bytes_of 3 c.object.value

  abbrev check : List ℕ
  check = bytes_of 6 c.check.value

  three : object ≡ at object 3
  three = spelled object 3 (length-bytes_of 3 c.object.value)

  last : check ≡ at check 6
  last = spelled check 6 (length-bytes_of 6 c.check.value)

  pub written_spelled : capability_bytes c
      ≡ at c.port.bytes 6 ++ (at object 3 ++ (c.rights.bits ∷ at check 6))
  written_spelled = λ i. spelled c.port.bytes 6 six i ++ (three i ++ (c.rights.bits ∷ last i))

  pub read_written : read_capability (capability_bytes c) ≡ Ok c
  read_written =
      ap read_capability written_spelled
      ∙ sym (λ i. Ok (record {
        port = record { bytes = spelled c.port.bytes 6 six i };
        object = object_of (number (three i));
        rights = c.rights;
        check = check_of (number (last i));
      }))
      ∙ ap (λ x. Ok (record c {
        object = x;
        check =
            check_of (number check);
      }))
      (ap object_of (number-bytes_of 3 c.object.value ∙ mod-eq_of_lt c.object.narrow)
      ∙ object_again c.object)
      ∙ ap (λ x. Ok (record c { check = x }))
      (ap check_of (number-bytes_of 6 c.check.value ∙ mod-eq_of_lt c.check.narrow)
      ∙ check_again c.check)

-- the bytes of object and check among sixteen, one by one
abbrev pub middle_three : List ℕ → List ℕ
middle_three bs = get_or bs 6 0 ∷ get_or bs 7 0 ∷ get_or bs 8 0 ∷ []

abbrev pub last_six : List ℕ → List ℕ
last_six bs =
    get_or bs 10 0 ∷ get_or bs 11 0 ∷ get_or bs 12 0 ∷ get_or bs 13 0 ∷ get_or bs 14 0 ∷ get_or bs
    15 0 ∷ []

-- the parts of sixteen bytes, one by one, with an object and a check
abbrev pub made_of : List ℕ → Object → Check → Capability
made_of bs o x =
    record {
      port = record { bytes = at bs 6 };
      object = o;
      rights =
          record { bits = get_or bs 9 0 };
      check = x;
    }

module _ (bs : List ℕ) (sixteen : length bs ≡ 16) (o : Object) (x : Check)
    (o_is : o ≡ object_of (number (middle_three bs))) (x_is : x ≡ check_of (number (last_six bs)))
  where
    pub parts_spelled : made_of bs o x ≡ capability_of bs
    parts_spelled =
        (λ i. made_of bs (o_is i) (x_is i)) ∙ sym (ap capability_of (spelled bs 16 sixteen))

    pub written_back : Bytes (middle_three bs) → Bytes (last_six bs)
        → capability_bytes (made_of bs o x) ≡ bs
    written_back small bytes =
        (λ i. at bs 6 ++ (object_bytes i ++ (get_or bs 9 0 ∷ check_bytes i)))
        ∙ sym (spelled bs 16 sixteen)
      where
        object_bytes : bytes_of 3 o.value ≡ middle_three bs
        object_bytes =
            ap (bytes_of 3) (ap (λ y. y.value) o_is
            ∙ mod-eq_of_lt (number_lt (middle_three bs) small))
            ∙ there_and_back 3 (middle_three bs) refl small

        check_bytes : bytes_of 6 x.value ≡ last_six bs
        check_bytes =
            ap (bytes_of 6) (ap (λ y. y.value) x_is ∙ mod-eq_of_lt (number_lt (last_six bs) bytes))
            ∙ there_and_back 6 (last_six bs) refl bytes
