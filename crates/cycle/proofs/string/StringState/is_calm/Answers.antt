-- `cycle::string::StringState::is_calm` meets its contract. Assumes nothing.
use Rattle.cycle.specs.Calm.{calm}
use Rattle.cycle.proofs.string.StringState.is_calm.Goals as goal

pub returns : goal.returns
unfolding calm
returns c = cc
