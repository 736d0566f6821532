-- The table of answers: what holds of every row. Assumes nothing.
use Rattle.std.proofs.Common.{◌≡◌, ◌<◌, true, false, refl, arith}
use Rattle.bits.proofs.Yes.{not-both}
use Rattle.cycle.specs.Answers.{number_of, is_taken}
use Rattle.cycle.specs.declared.answer.Answer.{Answer}
use Rattle.cycle.specs.declared.answer.Answer.TheVariants.{Taken, Stale, Repeat, CountEnded, WrongKind, OutboxShort, MapRefused}
use Rattle.cycle.specs.declared.answer.Answer.TheVariants.{BothWays, NothingSettled}

-- the monitor is stepped on 0 alone
pub taken-only : (a : Answer) → is_taken a ≡ true → a ≡ Taken
taken-only Taken e = refl
taken-only Stale e = not-both false e refl
taken-only Repeat e = not-both false e refl
taken-only CountEnded e = not-both false e refl
taken-only WrongKind e = not-both false e refl
taken-only OutboxShort e = not-both false e refl
taken-only MapRefused e = not-both false e refl
taken-only BothWays e = not-both false e refl
taken-only NothingSettled e = not-both false e refl

-- a number fits a byte
pub number-byte : (a : Answer) → number_of a < 256
number-byte Taken = omega arith
number-byte Stale = omega arith
number-byte Repeat = omega arith
number-byte CountEnded = omega arith
number-byte WrongKind = omega arith
number-byte OutboxShort = omega arith
number-byte MapRefused = omega arith
number-byte BothWays = omega arith
number-byte NothingSettled = omega arith
