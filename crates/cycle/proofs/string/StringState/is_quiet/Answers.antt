-- `cycle::string::StringState::is_quiet` meets its contract. Assumes nothing.
use Rattle.cycle.specs.Calm.{quiet}
use Rattle.cycle.proofs.string.StringState.is_quiet.Goals as goal

pub returns : goal.returns
unfolding quiet
returns c = cc
