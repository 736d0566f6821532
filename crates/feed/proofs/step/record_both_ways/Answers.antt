-- `feed::step::record_both_ways` meets its contract. Assumes nothing.
use Rattle.std.proofs.Common.{sym, ap, ◌∙◌, arith, ne_eqb}
use Rattle.cycle.specs.Size.{string_count}
use Rattle.cycle.specs.Hall.{both_ways, record_both_ways}
use Rattle.feed.specs.Values.{major_of, values_of}
use Rattle.feed.proofs.Records.Told.{values-major}
use Rattle.feed.proofs.Calls.Steps.{whole-minor, whole-major}
use Rattle.feed.proofs.step.record_both_ways.Goals as goal

pub bounds-s-1 : goal.bounds-s-1
bounds-s-1 c = omega (arith, whole-minor _ c.requires)

pub returns-then-s-ne-MAJOR_MARK : goal.returns-then-s-ne-MAJOR_MARK
unfolding values_of
returns-then-s-ne-MAJOR_MARK c = rw (ne_eqb _ _ c.if-s-ne-MAJOR_MARK.true)

pub requests_of-requires : goal.requests_of-requires
requests_of-requires c = whole-major _ c.requires c.if-s-ne-MAJOR_MARK.false

pub returns : goal.returns
unfolding major_of
returns c =
    let a = c.args in
    c.both_ways.ensures
    ∙ ap (both_ways string_count a.masks) c.requests_of.ensures
    ∙ sym (ap (record_both_ways a.masks) (values-major a.s.now c.if-s-ne-MAJOR_MARK.false))
