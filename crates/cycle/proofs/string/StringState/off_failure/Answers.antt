-- `cycle::string::StringState::off_failure` meets its contract. Assumes nothing.
use Rattle.cycle.specs.Words.{off_failure}
use Rattle.cycle.proofs.string.StringState.off_failure.Goals as goal

pub returns : goal.returns
unfolding off_failure
returns c = cc
