-- `cycle::string::StringState::path_lost` meets its contract. Assumes nothing.
use Rattle.std.proofs.Common.{refl}
use Rattle.cycle.specs.Words.{path_lost}
use Rattle.cycle.proofs.string.StringState.path_lost.Goals as goal

pub returns : goal.returns
unfolding path_lost
returns c = refl
