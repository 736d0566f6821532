-- `cycle::string::StringState::fourth_step` meets its contract. Assumes nothing.
use Rattle.cycle.specs.Inside.Halves.{fourth_step}
use Rattle.cycle.proofs.string.StringState.fourth_step.Goals as goal

pub returns-then-path : goal.returns-then-path
unfolding fourth_step
returns-then-path c = rw c.if-path.true

pub returns-else-path : goal.returns-else-path
unfolding fourth_step
returns-else-path c = rw c.if-path.false c.manifolds.ensures
