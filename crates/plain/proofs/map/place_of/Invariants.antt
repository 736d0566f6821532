-- `plain::map::place_of` meets its contract. Assumes nothing.
use Rattle.std.proofs.Common.{◌≡◌}
use Rattle.plain.specs.Map.{place_in}
use Rattle.plain.proofs.map.place_of.Given as goal

abbrev pub invariant-loop-i : goal.invariant-loop-i
invariant-loop-i l = l.place ≡ place_in l.i l.masks.words l.j
