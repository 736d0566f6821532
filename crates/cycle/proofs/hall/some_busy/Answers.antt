-- `cycle::hall::some_busy` meets its contract. Assumes nothing.
use Rattle.std.proofs.Common.{add-one, rules}
use Rattle.bits.specs.Bit.{any}
use Rattle.cycle.specs.Inside.Quiet.{some_busy}
use Rattle.cycle.proofs.hall.some_busy.Goals as goal

pub loop-s-init : goal.loop-s-init
unfolding some_busy any
loop-s-init c = search rules

pub loop-s-preserved : goal.loop-s-preserved
unfolding some_busy any
loop-s-preserved c = rw add-one (cc)
