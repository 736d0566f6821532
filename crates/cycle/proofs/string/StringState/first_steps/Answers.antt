-- `cycle::string::StringState::first_steps` meets its contract. Assumes nothing.
use Rattle.cycle.specs.Inside.Halves.{first_steps}
use Rattle.cycle.proofs.string.StringState.first_steps.Goals as goal

pub returns-then-path : goal.returns-then-path
unfolding first_steps
returns-then-path c = rw c.if-path.true c.path_lost.ensures

pub returns-else-path : goal.returns-else-path
unfolding first_steps
returns-else-path c = rw c.if-path.false (cc)
