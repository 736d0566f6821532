-- `cycle::number::missed_major` meets its contract. Assumes nothing.
use Rattle.std.proofs.Common.{refl}
use Rattle.cycle.specs.Numbers.{missed_major}
use Rattle.cycle.proofs.number.missed_major.Goals as goal

pub returns : goal.returns
unfolding missed_major
returns c = refl
