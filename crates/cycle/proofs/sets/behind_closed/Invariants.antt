-- `cycle::sets::behind_closed` meets its contract. Assumes nothing.
use Rattle.std.proofs.Common.{◌≡◌}
use Rattle.cycle.specs.Words.{behind_closed}
use Rattle.cycle.proofs.sets.behind_closed.Given as goal

abbrev pub invariant-loop-i : goal.invariant-loop-i
invariant-loop-i l = l.w ≡ behind_closed l.i l.masks.words l.valves
