-- `cycle::sets::bad_jets` meets its contract. Assumes nothing.
use Rattle.cycle.specs.Words.{bad_jets}
use Rattle.cycle.proofs.sets.bad_jets.Goals as goal

pub returns : goal.returns
unfolding bad_jets
returns c = c.without.ensures
