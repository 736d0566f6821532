-- `plain::string::PlainString::fail_word` meets its contract. Assumes nothing.
use mathlib.Core.Path.{◌≡◌}
use Rattle.plain.specs.Shown.{fail_word}
use Rattle.plain.proofs.string.PlainString.fail_word.Given as goal

abbrev pub invariant-loop-j : goal.invariant-loop-j
invariant-loop-j l = l.w ≡ fail_word l.j l.self.jets
