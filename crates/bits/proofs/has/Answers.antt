-- `bits::has` meets its contract. Assumes nothing.
use Rattle.std.proofs.Common.{refl, sym, rules}
use Rattle.bits.specs.Bit.{bit}
use Rattle.bits.proofs.Bits.{bit_past}
use Rattle.bits.proofs.has.Goals as goal

pub returns-then-j-lt-WORD_BITS : goal.returns-then-j-lt-WORD_BITS
unfolding bit
returns-then-j-lt-WORD_BITS c = refl

pub returns-else-j-lt-WORD_BITS : goal.returns-else-j-lt-WORD_BITS
returns-else-j-lt-WORD_BITS c = sym (bit_past 32 c.args.j c.args.w (search rules) c.if-j-lt-WORD_BITS.false)
