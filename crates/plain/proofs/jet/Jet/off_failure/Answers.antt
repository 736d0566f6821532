-- `plain::jet::Jet::off_failure` meets its contract. Assumes nothing.
use mathlib.Core.Path.{refl}
use Rattle.cycle.specs.Jets.{off_failure}
use Rattle.plain.proofs.jet.Jet.off_failure.Goals as goal

pub returns : goal.returns
unfolding off_failure
returns c = refl
