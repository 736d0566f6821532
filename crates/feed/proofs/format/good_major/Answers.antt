-- `feed::format::good_major` meets its contract: what is left without the last span is right where the sum is, and only there.
-- Assumes nothing.
use Rattle.std.proofs.Common.{◌≡◌, ℕ, ◌&&◌, List, sym, ◌∙◌, mod-lt, arith, rules, length-take-le}
use Rattle.feed.specs.Format.{reserved_zero, quantities_right, good_major}
use Rattle.feed.proofs.Records.Sums.{rest-right, rest-of-right, rest-back, major-sum, major-bad, major-reserved}
use Rattle.feed.proofs.format.good_major.Goals as goal

-- where the last span begins
abbrev last : ℕ
last = 585

pub returns-then-not-reserved_zero : goal.returns-then-not-reserved_zero
returns-then-not-reserved_zero c = major-reserved _ (sym c.reserved_zero.ensures ∙ c.if-not-reserved_zero.true)

pub slice_bounds-sum_by_spans-end : goal.slice_bounds-sum_by_spans-end
slice_bounds-sum_by_spans-end c = sym (length-take-le last c.args.s.now (omega arith))

pub returns-then-rest-sum_by_spans : goal.returns-then-rest-sum_by_spans
returns-then-rest-sum_by_spans c =
    let only = rest-of-right c.args.s.now last 32 _ _ _ c.sum.ensures
    (rest-back c.two_at.result c.sum.result (search rules) (search rules) ∙ c.two_at.ensures) (mod-lt _ (omega arith)) in
    major-bad c.args.s.now (λ e. c.if-rest-sum_by_spans.true (only e ∙ sym c.sum_by_spans.ensures))

pub returns : goal.returns
returns c =
    let l : List ℕ = c.args.s.now in
    let right = rest-right l last 32 _ _ _ c.sum.ensures
    (rest-back c.two_at.result c.sum.result (search rules) (search rules) ∙ c.two_at.ensures)
    (c.if-rest-sum_by_spans.false ∙ c.sum_by_spans.ensures) in
    let e : (reserved_zero l && quantities_right l) ≡ good_major l = major-sum l right in
    c.quantities_right.ensures
    ∙ (simp (sym c.reserved_zero.ensures ∙ c.if-not-reserved_zero.false) at e)
