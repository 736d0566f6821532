-- `cycle::string::StringState::kept` meets its contract. Assumes nothing.
use Rattle.std.proofs.Common.{refl}
use Rattle.cycle.specs.Words.{kept}
use Rattle.cycle.proofs.string.StringState.kept.Goals as goal

pub returns : goal.returns
unfolding kept
returns c = refl
