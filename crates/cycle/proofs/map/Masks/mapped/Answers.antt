-- `cycle::map::Masks::mapped` meets its contract. Assumes nothing.
use Rattle.std.proofs.Common.{rules}
use Rattle.cycle.specs.Map.{mapped}
use Rattle.cycle.proofs.Loops.{mapped-turn}
use Rattle.cycle.proofs.map.Masks.mapped.Goals as goal

pub loop-word-init : goal.loop-word-init
unfolding mapped
loop-word-init c = search rules

pub loop-word-preserved : goal.loop-word-preserved
loop-word-preserved c = mapped-turn c.args.self.words c.loop-word.word-index c.loop-word.invariant
