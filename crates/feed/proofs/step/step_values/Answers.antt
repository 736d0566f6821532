-- `feed::step::step_values` meets its contract. Assumes nothing.
use Rattle.std.proofs.Common.{sym, ap, ◌∙◌, arith, eq-eqb, ne_eqb}
use Rattle.cycle.specs.Records.{minor, major}
use Rattle.cycle.specs.Hall.{stepped}
use Rattle.feed.specs.Values.{values_of}
use Rattle.feed.proofs.Calls.Steps.{whole-minor, whole-major, step-whole}
use Rattle.feed.proofs.step.step_values.Goals as goal

pub minor_of-r-requires : goal.minor_of-r-requires
minor_of-r-requires c = whole-minor _ c.requires

pub bounds-s-1 : goal.bounds-s-1
bounds-s-1 c = omega (arith, whole-minor _ c.requires)

pub major_of-requires : goal.major_of-requires
major_of-requires c = (
  whole-major _ c.requires c.if-s-eq-MAJOR_MARK.true,
  c.minor_of-r.ensures,
)

pub returns-then-s-eq-MAJOR_MARK : goal.returns-then-s-eq-MAJOR_MARK
unfolding values_of
returns-then-s-eq-MAJOR_MARK c =
    c.major.ensures
    ∙ ap (λ r. stepped (major r) c.args.hall) c.major_of.ensures
    ∙ sym (step-whole c.args.s.now c.args.hall c.requires ∙ rw (eq-eqb _ _ c.if-s-eq-MAJOR_MARK.true))

pub returns-else-s-eq-MAJOR_MARK : goal.returns-else-s-eq-MAJOR_MARK
unfolding values_of
returns-else-s-eq-MAJOR_MARK c =
    c.minor.ensures
    ∙ ap (λ r. stepped (minor r) c.args.hall) c.minor_of-r.ensures
    ∙ sym (step-whole c.args.s.now c.args.hall c.requires ∙ rw (ne_eqb _ _ c.if-s-eq-MAJOR_MARK.false))
