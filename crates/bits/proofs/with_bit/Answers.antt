-- `bits::with_bit` meets its contract. Assumes nothing.
use Rattle.std.proofs.Common.{◌^◌, ap, ◌∙◌, lit<, arith, bit_or}
use native.Mathlib.Nat.{one-mul}
use lib.Pow.{shl_exact}
use borrow.Author.Tests.{lt-ltb, le-ltb}
use Rattle.bits.specs.Bit.{with_bit}
use Rattle.bits.proofs.with_bit.Goals as goal

pub returns-then-b : goal.returns-then-b
unfolding with_bit
returns-then-b c =
    rw (lt-ltb _ _ c.if-j-lt-WORD_BITS.true, c.if-b.true)
    (ap (bit_or c.args.w)
    (shl_exact 1 c.args.j 32 (lit< tt) (omega (arith, c.if-j-lt-WORD_BITS.true)) ∙ one-mul (2 ^ c.args.j)))

pub returns-else-b : goal.returns-else-b
unfolding with_bit
returns-else-b c = rw (lt-ltb _ _ c.if-j-lt-WORD_BITS.true, c.if-b.false)

pub returns-else-j-lt-WORD_BITS : goal.returns-else-j-lt-WORD_BITS
unfolding with_bit
returns-else-j-lt-WORD_BITS c = rw (le-ltb _ _ c.if-j-lt-WORD_BITS.false)
