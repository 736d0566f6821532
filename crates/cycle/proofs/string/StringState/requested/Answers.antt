-- `cycle::string::StringState::requested` meets its contract. Assumes nothing.
use Rattle.cycle.specs.Words.{requested}
use Rattle.cycle.proofs.string.StringState.requested.Goals as goal

pub returns : goal.returns
unfolding requested
returns c = cc
