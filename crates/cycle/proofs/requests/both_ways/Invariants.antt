-- `cycle::requests::both_ways` meets its contract. Assumes nothing.
use Rattle.std.proofs.Common.{◌≡◌}
use Rattle.cycle.specs.Hall.{both_ways}
use Rattle.cycle.proofs.requests.both_ways.Given as goal

abbrev pub invariant-loop-s : goal.invariant-loop-s
invariant-loop-s l = l.found ≡ both_ways l.s l.masks l.requests
