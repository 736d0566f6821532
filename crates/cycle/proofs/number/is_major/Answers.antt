-- `cycle::number::is_major` meets its contract. Assumes nothing.
use Rattle.std.proofs.Common.{refl}
use Rattle.cycle.specs.Numbers.{is_major}
use Rattle.cycle.proofs.number.is_major.Goals as goal

pub returns : goal.returns
unfolding is_major
returns c = refl
