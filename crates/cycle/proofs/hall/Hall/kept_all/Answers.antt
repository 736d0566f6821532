-- `cycle::hall::Hall::kept_all` meets its contract. Assumes nothing.
use Rattle.cycle.specs.Calm.{kept_all}
use Rattle.cycle.proofs.hall.Hall.kept_all.Goals as goal

pub returns : goal.returns
unfolding kept_all
returns c = rw (← c.kept_strings-self.ensures, ← c.weighed_all-self.ensures)
