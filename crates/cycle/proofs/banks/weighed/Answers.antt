-- `cycle::banks::weighed` meets its contract. Assumes nothing.
use Rattle.std.proofs.Common.{le-ltb, lt-ltb}
use Rattle.cycle.specs.Banks.{weighed}
use Rattle.cycle.proofs.banks.weighed.Goals as goal

pub returns-then-q : goal.returns-then-q
unfolding weighed
returns-then-q c = rw (lt-ltb _ _ c.if-q.true, c.fuel_less_oxidizer-difference.ensures)

pub returns-else-q : goal.returns-else-q
unfolding weighed
returns-else-q c = rw (le-ltb _ _ c.if-q.false, c.fuel_less_oxidizer-difference.ensures)
