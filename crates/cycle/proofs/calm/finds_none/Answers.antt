-- `cycle::calm::finds_none` meets its contract. Assumes nothing.
use Rattle.cycle.specs.Calm.{finds_none}
use Rattle.cycle.proofs.calm.finds_none.Goals as goal

pub returns : goal.returns
unfolding finds_none
returns c = cc
