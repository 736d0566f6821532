-- `cycle::map::Masks::overlap` meets its contract. Assumes nothing.
use Rattle.std.proofs.Common.{rules}
use Rattle.cycle.specs.Map.{mapped, overlap}
use Rattle.cycle.proofs.Loops.{mapped-turn, overlap-turn}
use Rattle.cycle.proofs.map.Masks.overlap.Goals as goal

pub loop-word-init : goal.loop-word-init
unfolding mapped overlap
loop-word-init c = search rules

pub loop-word-preserved : goal.loop-word-preserved
loop-word-preserved c =
    let w = c.args.self.words in
    let at = c.loop-word in
    (mapped-turn w at.word-index at.invariant.0, overlap-turn w at.word-index at.invariant.0 at.invariant.1 c.meets-found.ensures)
