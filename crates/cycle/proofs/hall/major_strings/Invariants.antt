-- `cycle::hall::major_strings` meets its contract. Assumes nothing.
use Rattle.std.proofs.Common.{◌≡◌}
use Rattle.cycle.specs.Hall.{major_strings}
use Rattle.cycle.proofs.hall.major_strings.Given as goal

abbrev pub invariant-loop-s : goal.invariant-loop-s
invariant-loop-s l = l.strings ≡ major_strings l.s l.masks l.r l.initial.strings
