-- `plain::string::PlainString::close_word` meets its contract. Assumes nothing.
use mathlib.Core.Path.{◌≡◌}
use Rattle.plain.specs.Shown.{close_word}
use Rattle.plain.proofs.string.PlainString.close_word.Given as goal

abbrev pub invariant-loop-i : goal.invariant-loop-i
invariant-loop-i l = l.w ≡ close_word l.i l.self.close
