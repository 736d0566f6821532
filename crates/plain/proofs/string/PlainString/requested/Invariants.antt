-- `plain::string::PlainString::requested` meets its contract. Assumes nothing.
use Rattle.std.proofs.Common.{◌≡◌}
use Rattle.plain.specs.String.{request_rule}
use Rattle.plain.proofs.Loops.{through}
use Rattle.plain.proofs.string.PlainString.requested.Given as goal

abbrev pub invariant-loop-j : goal.invariant-loop-j
invariant-loop-j l = l.self ≡ through l.j (request_rule l.said) l.initial.self
