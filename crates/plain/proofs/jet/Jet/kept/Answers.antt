-- `plain::jet::Jet::kept` meets its contract. Assumes nothing.
use mathlib.Core.Path.{refl}
use Rattle.cycle.specs.Jets.{kept}
use Rattle.plain.proofs.jet.Jet.kept.Goals as goal

pub returns : goal.returns
unfolding kept
returns c = refl
