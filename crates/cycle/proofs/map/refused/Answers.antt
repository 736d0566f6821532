-- `cycle::map::refused` meets its contract. Assumes nothing.
use Rattle.std.proofs.Common.{rules}
use Rattle.bits.specs.Bit.{any}
use Rattle.cycle.specs.Map.{refused}
use Rattle.cycle.proofs.Loops.{refused-turn}
use Rattle.cycle.proofs.map.refused.Goals as goal

pub loop-m-init : goal.loop-m-init
unfolding refused any
loop-m-init c = search rules

pub loop-m-preserved : goal.loop-m-preserved
loop-m-preserved c = refused-turn c.args.masks c.loop-m.m-index c.loop-m.invariant c.overlap-found.ensures
