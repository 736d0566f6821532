-- `plain::jet::Jet::remembered` meets its contract. Assumes nothing.
use mathlib.Core.Path.{refl}
use Rattle.cycle.specs.Jets.{remembered}
use Rattle.plain.proofs.jet.Jet.remembered.Goals as goal

pub returns : goal.returns
unfolding remembered
returns c = refl
