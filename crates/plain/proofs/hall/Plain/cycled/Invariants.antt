-- `plain::hall::Plain::cycled` meets its contract. Assumes nothing.
use Rattle.std.proofs.Common.{◌≡◌}
use Rattle.plain.specs.Hall.{cycles}
use Rattle.plain.proofs.hall.Plain.cycled.Given as goal

abbrev pub invariant-loop-s : goal.invariant-loop-s
invariant-loop-s l = l.self ≡ record { n = l.initial.self.n; strings = cycles l.s l.said l.next l.major l.initial.self.strings; banks = l.initial.self.banks }
