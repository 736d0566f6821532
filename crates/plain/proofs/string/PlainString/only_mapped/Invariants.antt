-- `plain::string::PlainString::only_mapped` meets its contract. Assumes nothing.
use Rattle.std.proofs.Common.{◌≡◌}
use Rattle.plain.specs.String.{keep_rule}
use Rattle.plain.proofs.Loops.{through}
use Rattle.plain.proofs.string.PlainString.only_mapped.Given as goal

abbrev pub invariant-loop-j : goal.invariant-loop-j
invariant-loop-j l = l.self ≡ through l.j (keep_rule l.before) l.initial.self
