use Rattle.std.proofs.Common.{◌≡◌, ◌<◌, ◌+◌, ◌++◌, ◌∙◌, Some, None, true, length, take, drop, nat_eq, sym, ap, subst, arith, rules, suc, take_all, ◌≤◌}
use Rattle.std.specs.Io.BufRead.{FillKeeps}
use Rattle.text.specs.Lines.{line_in}
use Rattle.console.specs.Lines.{line_front}
use Rattle.console.specs.Reading.{line_bytes, next_behind, to_come}
use Rattle.console.proofs.LineFacts.{consumed, end_read, line_in_front, line_read, part_read}
use Rattle.console.proofs.line.Line.read_on.Goals as goal

pub returns-then-is_empty : goal.returns-then-is_empty
returns-then-is_empty g c =
    let rested = c.fill_buf.follows.lender-at-none in
    let filled =
    subst (FillKeeps _ (g.R.Read.remaining rested) (g.R.BufRead.consumable_len rested))
    c.in_ok-ahead.was c.fill_buf.follows.holds-at-none in
    let none : length c.in_ok-ahead.ahead.now ≡ 0 = search rules in
    let before = line_bytes c.args.self.now in
    let fits : length before ≤ 256 =
    subst (λ l. length l ≤ 256) c.bytes.ensures.bytes c.bytes.ensures.fits in
    end_read _ _ c.in_ok-ahead.ahead.now before _ none fits
    (c.is_empty-then-is_empty.ensures ∙ ap (λ l. nat_eq (length l) 0) c.bytes.ensures.bytes)
    c.in_ok-ahead.ensures.end filled.0

pub returns-then-length-ahead : goal.returns-then-length-ahead
returns-then-length-ahead g c =
    let rested = c.fill_buf.follows.lender-at-none in
    let filled =
    subst (FillKeeps _ (g.R.Read.remaining rested) (g.R.BufRead.consumable_len rested))
    c.in_ok-ahead.was c.fill_buf.follows.holds-at-none in
    let ahead = c.in_ok-ahead.ahead.now in
    let n = c.length_of_line-length.result in
    let before = line_bytes c.args.self.now in
    let whole : n ≡ length ahead = c.if-length-ahead.true in
    let added : line_bytes c.add.new.self ≡ line_front (before ++ ahead) =
    c.add.ensures ∙ ap (λ l. line_front (before ++ l)) (take_all n ahead (omega arith)) in
    consumed _ _ _ _ ahead before _ None n c.length_of_line-length.ensures.within
    c.in_ok-ahead.ensures.front filled.0 filled.1 c.consume.ensures.bytes
    (λ rest. ap (λ l. next_behind l (drop n (ahead ++ rest))) added
    ∙ ap (λ k. next_behind (line_front (before ++ ahead)) (drop k (ahead ++ rest))) whole
    ∙ part_read before ahead rest (sym c.length_of_line-length.ensures.length ∙ whole))

pub returns : goal.returns
returns g c =
    let rested = c.fill_buf.follows.lender-at-none in
    let filled =
    subst (FillKeeps _ (g.R.Read.remaining rested) (g.R.BufRead.consumable_len rested))
    c.in_ok-ahead.was c.fill_buf.follows.holds-at-none in
    let ahead = c.in_ok-ahead.ahead.now in
    let n = c.length_of_line-length.result in
    let before = line_bytes c.args.self.now in
    let is : n ≡ length (line_in ahead) = c.length_of_line-length.ensures.length in
    let some : n < length ahead =
    omega (arith, c.if-length-ahead.false, c.length_of_line-length.ensures.within) in
    let added : line_bytes c.add.new.self ≡ line_front (before ++ line_in ahead) =
    c.add.ensures ∙ ap (λ l. line_front (before ++ l))
    (ap (λ k. take k ahead) is ∙ line_in_front ahead) in
    let next : n + 1 ≡ suc (length (line_in ahead)) = omega arith in
    consumed _ _ _ _ ahead before _ (Some true) (n + 1) (omega arith) c.in_ok-ahead.ensures.front
    filled.0 filled.1 c.consume-2.ensures.bytes
    (λ rest. ap (λ l. to_come (Some true) l (drop (n + 1) (ahead ++ rest))) added
    ∙ ap (λ k. to_come (Some true) (line_front (before ++ line_in ahead))
    (drop k (ahead ++ rest))) next
    ∙ line_read before ahead rest (omega arith))
