-- `cycle::map::refused` meets its contract. Assumes nothing.
use Rattle.std.proofs.Common.{◌≡◌}
use Rattle.cycle.specs.Map.{refused}
use Rattle.cycle.proofs.map.refused.Given as goal

abbrev pub invariant-loop-m : goal.invariant-loop-m
invariant-loop-m l = l.found ≡ refused l.m-index l.m-items
