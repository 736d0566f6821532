-- `cycle::banks::weighed_all` meets its contract. Assumes nothing.
use Rattle.std.proofs.Common.{rules}
use Rattle.cycle.specs.Each.{each}
use Rattle.cycle.specs.Banks.{weighed_all}
use Rattle.cycle.proofs.Loops.{turned}
use Rattle.cycle.proofs.banks.weighed_all.Goals as goal

pub loop-m-init : goal.loop-m-init
unfolding weighed_all each
loop-m-init c = search rules

pub loop-m-preserved : goal.loop-m-preserved
unfolding weighed_all
loop-m-preserved c = turned _ _ _ _ _ _ c.loop-m.invariant c.weighed.ensures
