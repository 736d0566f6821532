-- `cycle::string::StringState::on_failure` meets its contract. Assumes nothing.
use Rattle.cycle.specs.Words.{on_failure}
use Rattle.cycle.proofs.string.StringState.on_failure.Goals as goal

pub returns : goal.returns
unfolding on_failure
returns c = cc
