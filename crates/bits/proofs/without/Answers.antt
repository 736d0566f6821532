-- `bits::without` meets its contract. Assumes nothing.
use Rattle.std.proofs.Common.{rules}
use Rattle.bits.proofs.Bits.{and-not-is-without}
use Rattle.bits.proofs.without.Goals as goal

pub returns : goal.returns
returns c = and-not-is-without c.args.a c.args.b (search rules) (search rules)
