-- `plain::jet::Jet::path_lost` meets its contract. Assumes nothing.
use mathlib.Core.Path.{refl}
use Rattle.cycle.specs.Jets.{path_lost}
use Rattle.plain.proofs.jet.Jet.path_lost.Goals as goal

pub returns : goal.returns
unfolding path_lost
returns c = refl
