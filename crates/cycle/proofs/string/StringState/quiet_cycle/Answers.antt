-- `cycle::string::StringState::quiet_cycle` meets its contract. Assumes nothing.
use Rattle.cycle.specs.Inside.Quiet.{quiet_cycle}
use Rattle.cycle.proofs.string.StringState.quiet_cycle.Goals as goal

pub returns : goal.returns
unfolding quiet_cycle
returns c = cc
