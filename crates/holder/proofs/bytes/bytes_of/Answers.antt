use Rattle.std.proofs.Common.{◌≡◌, ℕ, ◌+◌, ◌-◌, ◌*◌, ◌^◌, ◌<◌, ◌≤◌, MatchOption, Option, Some, None, List, length, drop, ap, ◌∙◌, subst, Bor, arith, pow_pos}
use Rattle.std.proofs.Math.Nat.{div-lt_iff_lt-mul}
use Rattle.std.specs.Int.{bytes_high_first}
use Rattle.std.specs.Array.{IsWholeChunk}
use Rattle.std.specs.Option.{option_copied}
use Rattle.holder.specs.Bytes.{bytes_of}
use Rattle.holder.proofs.ByteFacts.{lowest}
use Rattle.holder.proofs.bytes.bytes_of.Goals as goal

-- the last N of a number's eight bytes
module _ (N n : ℕ) (few : N ≤ 7) (small : n < 2 ^ (8 * N)) where
  last : (r : Option (Bor (List ℕ)))
      → MatchOption r (8 < N) (λ y. (N ≤ 8)
      × IsWholeChunk (drop (8 - N) (bytes_high_first 8 n)) y.now N)
      → MatchOption (option_copied r) (2 ^ (8 * N) ≤ n)
      (λ bytes. (n < 2 ^ (8 * N)) × (bytes ≡ bytes_of N n))
  last (Some y) h =
      let e : 8 ≡ 8 - N + N = omega arith in
      (small, h.1.same ∙ ap (λ j. drop (8 - N) (bytes_high_first j n)) e ∙ lowest (8 - N) N n)
  last None h = absurd (omega arith)

pub returns : goal.returns
returns g c =
    let N = g.row.N in
    let n = c.args.n in
    let once =
    (div-lt_iff_lt-mul {k = 2 ^ (8 * N)} {x = n} {y =
    1} (pow_pos (8 * N))).0 (omega (arith, c.if-n-ne0.false)) in
    let small : n < 2 ^ (8 * N) = omega (arith, once) in
    rw c.copied.ensures (last N n c.requires small c.last_chunk.result
    (subst (λ bs. MatchOption c.last_chunk.result (length bs < N)
    (λ y. (N ≤ length bs) × IsWholeChunk (drop (length bs - N) bs) y.now N))
    c.to_be_bytes.ensures c.last_chunk.ensures.cases))
