-- `cycle::sets::close_bits` meets its contract. Assumes nothing.
use Rattle.std.proofs.Common.{◌≡◌}
use Rattle.cycle.specs.Words.{close_bits}
use Rattle.cycle.proofs.sets.close_bits.Given as goal

abbrev pub invariant-loop-i : goal.invariant-loop-i
invariant-loop-i l = l.w ≡ close_bits l.i l.masks.words l.recheck l.bad
