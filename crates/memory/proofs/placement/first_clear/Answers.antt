use Rattle.std.proofs.Common.{◌≡◌, ℕ, ◌+◌, ◌<◌, ◌≤◌, true, false, eqb, leb, List, None, sym, ◌∙◌, inl, inr, arith, rules, tests}
use Rattle.std.proofs.lemmas.Bool.{cond-false, ne_eqb, le-leb, lt-leb, and_left, and_right, and_from, cases_lt}
use Rattle.std.proofs.lemmas.Grind.{common_steps}
use Rattle.std.specs.List.{list_all}
use Rattle.memory.proofs.Lists.{failing_from_find}
use Rattle.table.specs.Lowest.{lowest}
use Rattle.memory.specs.Parts.{is_clear_of}
use Rattle.memory.specs.Placement.{is_allowed, lowest_start}
use Rattle.memory.specs.declared.file_record.FileRecord.{FileRecord}
use Rattle.table.proofs.LowestFacts.{lowest_none, lowest_some}
use Rattle.memory.proofs.placement.first_clear.Goals as goal

module _ (files : List FileRecord) (area length : ℕ) where
  -- no start is allowed from which the bytes reach past the area
  past_end : (s : ℕ) → area < s + length → is_allowed files area length s ≡ false
  past_end s h =
      and_left (leb (s + length) area) (list_all (is_clear_of s length) files)
      (lt-leb (s + length) area h)

  some_bytes : (length ≡ 0 → ⊥)
      → lowest_start files area length ≡ lowest (is_allowed files area length) (area + 1)
  some_bytes h = cond-false (eqb length 0) _ _ (ne_eqb length 0 h)

  -- where the search for a start ends
  at_end : (start : ℕ) → (length ≡ 0 → ⊥) → area < start + length
      → ((s : ℕ) → s < start → is_allowed files area length s ≡ false)
      → None ≡ lowest_start files area length
  at_end start h p before =
      sym (some_bytes h ∙ lowest_none (is_allowed files area length) (area + 1)
      (λ s q. elim (cases_lt s start) [ inl r ↦ before s r | inr r ↦ past_end s (omega arith) ]))

-- a start inside a file that is in the way is in its way too
still_blocked : (start s length : ℕ) (r : FileRecord) → is_clear_of start length r ≡ false
    → start ≤ s
    → s < r.start + r.length → is_clear_of s length r ≡ false
still_blocked start s length r e from to = grind (arith, common_steps)

-- and the file ends behind it
ends_behind : (start length : ℕ) (r : FileRecord) → is_clear_of start length r ≡ false
    → start < r.start + r.length
ends_behind start length r e = grind (arith, common_steps)

pub returns-in_err-last : goal.returns-in_err-last
returns-in_err-last c =
    let short = c.in_err-last.ensures in
    c.from_residual.ensures ∙ at_end c.args.files.now c.args.area c.args.length 0
    c.if-length-eq0.false (omega (arith, short)) (λ s h. absurd (omega arith))

pub returns-in-None : goal.returns-in-None
returns-in-None c =
    let files = c.args.files.now in
    let area = c.args.area in
    let length = c.args.length in
    let start = c.loop-start.start in
    let last = c.in_ok-last.ensures in
    let found =
    failing_from_find (is_clear_of start length) _ _ c.find.result files c.find.ensures.ran (cc)
    (λ x b q k. search (rules, tests)) in
    let fits : leb (start + length) area ≡ true =
    le-leb (start + length) area (omega (arith, last)) in
    let clear : list_all (is_clear_of start length) files ≡ true = rw c.in-None.is at found in
    sym (some_bytes files area length c.if-length-eq0.false
    ∙ lowest_some (is_allowed files area length) (area + 1) start (omega arith)
    (and_from (leb (start + length) area) (list_all (is_clear_of start length) files) fits clear)
    c.loop-start.invariant)

pub loop-start-smaller : goal.loop-start-smaller
loop-start-smaller c =
    let files = c.args.files.now in
    let start = c.loop-start.start in
    let length = c.args.length in
    let found =
    failing_from_find (is_clear_of start length) _ _ c.find.result files c.find.ensures.ran (cc)
    (λ x b q k. search (rules, tests)) in
    let blocks = rw c.in-Some.is at found in
    omega (arith, ends_behind start length c.in-Some.file.now blocks.0, c.in_ok-last.ensures)

pub loop-start-preserved : goal.loop-start-preserved
loop-start-preserved c s h =
    let files = c.args.files.now in
    let start = c.loop-start.start in
    let length = c.args.length in
    let found =
    failing_from_find (is_clear_of start length) _ _ c.find.result files c.find.ensures.ran (cc)
    (λ x b q k. search (rules, tests)) in
    let blocks = rw c.in-Some.is at found in
    elim (cases_lt s start) [
      | inl before ↦ c.loop-start.invariant s before
      | inr from ↦ and_right (leb (s + length) c.args.area) (list_all (is_clear_of s length) files)
          (blocks.1 (is_clear_of s length)
          (still_blocked start s length c.in-Some.file.now blocks.0 from (omega arith)))
    ]

pub returns : goal.returns
returns c =
    let last = c.in_ok-last.ensures in
    at_end c.args.files.now c.args.area c.args.length c.loop-start.start c.if-length-eq0.false
    (omega (arith, last)) c.loop-start.invariant
