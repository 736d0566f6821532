-- `plain::string::PlainString::minor_steps` meets its contract. Assumes nothing.
use Rattle.std.proofs.Common.{◌≡◌}
use Rattle.plain.specs.String.{minor_rule}
use Rattle.plain.proofs.Loops.{through}
use Rattle.plain.proofs.string.PlainString.minor_steps.Given as goal

abbrev pub invariant-loop-j : goal.invariant-loop-j
invariant-loop-j l = l.self ≡ through l.j (minor_rule l.said l.next.gap l.next.missed) l.initial.self
