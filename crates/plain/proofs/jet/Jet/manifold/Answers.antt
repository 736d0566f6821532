-- `plain::jet::Jet::manifold` meets its contract. Assumes nothing.
use mathlib.Core.Path.{ap, ◌∙◌}
use Rattle.cycle.specs.Jets.{remembered}
use Rattle.plain.specs.Jet.{by}
use Rattle.plain.proofs.jet.Jet.manifold.Goals as goal

pub returns : goal.returns
returns c = c.remembered.ensures ∙ ap (by (remembered c.args.now)) c.valve_moved.ensures
