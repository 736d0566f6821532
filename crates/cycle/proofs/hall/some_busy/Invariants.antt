-- `cycle::hall::some_busy` meets its contract. Assumes nothing.
use Rattle.std.proofs.Common.{◌≡◌}
use Rattle.cycle.specs.Inside.Quiet.{some_busy}
use Rattle.cycle.proofs.hall.some_busy.Given as goal

abbrev pub invariant-loop-s : goal.invariant-loop-s
invariant-loop-s l = l.found ≡ some_busy l.s l.r l.strings
