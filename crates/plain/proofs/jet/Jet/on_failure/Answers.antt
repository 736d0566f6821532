-- `plain::jet::Jet::on_failure` meets its contract. Assumes nothing.
use mathlib.Core.Path.{refl}
use Rattle.cycle.specs.Jets.{on_failure}
use Rattle.plain.proofs.jet.Jet.on_failure.Goals as goal

pub returns : goal.returns
unfolding on_failure
returns c = refl
