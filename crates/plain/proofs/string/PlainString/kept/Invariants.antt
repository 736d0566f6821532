-- `plain::string::PlainString::kept` meets its contract. Assumes nothing.
use Rattle.std.proofs.Common.{◌≡◌}
use Rattle.plain.specs.String.{kept_rule}
use Rattle.plain.proofs.Loops.{through}
use Rattle.plain.proofs.string.PlainString.kept.Given as goal

abbrev pub invariant-loop-j : goal.invariant-loop-j
invariant-loop-j l = l.self ≡ through l.j (kept_rule) l.initial.self
