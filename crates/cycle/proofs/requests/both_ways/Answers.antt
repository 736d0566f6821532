-- `cycle::requests::both_ways` meets its contract. Assumes nothing.
use Rattle.std.proofs.Common.{rules}
use Rattle.bits.specs.Bit.{any}
use Rattle.cycle.specs.Hall.{both_ways}
use Rattle.cycle.proofs.Loops.{both-ways-turn}
use Rattle.cycle.proofs.requests.both_ways.Goals as goal

pub loop-s-init : goal.loop-s-init
unfolding both_ways any
loop-s-init c = search rules

pub loop-s-preserved : goal.loop-s-preserved
loop-s-preserved c =
    let a = c.args in
    both-ways-turn a.masks a.requests c.loop-s.s c.loop-s.invariant c.string_both_ways-found.ensures
