-- `bits::meets` meets its contract. Assumes nothing.
use Rattle.std.proofs.Common.{refl}
use Rattle.bits.specs.Bit.{meets}
use Rattle.bits.proofs.meets.Goals as goal

pub returns : goal.returns
unfolding meets
returns c = refl
