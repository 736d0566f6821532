-- `plain::string::PlainString::path_lost` meets its contract. Assumes nothing.
use Rattle.std.proofs.Common.{◌≡◌}
use Rattle.plain.specs.String.{lost_rule}
use Rattle.plain.proofs.Loops.{through}
use Rattle.plain.proofs.string.PlainString.path_lost.Given as goal

abbrev pub invariant-loop-j : goal.invariant-loop-j
invariant-loop-j l = l.self ≡ through l.j (lost_rule) l.initial.self
