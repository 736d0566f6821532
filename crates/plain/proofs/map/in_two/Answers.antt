-- `plain::map::in_two` meets its contract. Assumes nothing.
use Rattle.std.proofs.Common.{rules}
use Rattle.plain.specs.Map.{in_one, in_two}
use Rattle.plain.proofs.Loops.{one-turned, two-turned}
use Rattle.plain.proofs.map.in_two.Goals as goal

pub loop-word-init : goal.loop-word-init
unfolding in_one in_two
loop-word-init c = search rules

pub loop-word-preserved : goal.loop-word-preserved
loop-word-preserved c =
    let at = c.loop-word in
    let a = c.args in
    let looked = c.has-here.ensures in (
      one-turned a.masks.words a.j at.word-index looked at.invariant.0,
      two-turned a.masks.words a.j at.word-index looked at.invariant.0 at.invariant.1,
    )
