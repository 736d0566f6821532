-- `plain::jet::Jet::gapped` meets its contract. Assumes nothing.
use mathlib.Core.Path.{ap, ◌∙◌}
use Rattle.cycle.specs.Jets.{on_cleared, gapped}
use Rattle.plain.specs.Jet.{by}
use Rattle.plain.proofs.jet.Jet.gapped.Goals as goal

pub returns : goal.returns
unfolding gapped
returns c = c.on_cleared.ensures ∙ ap (by (on_cleared c.args.next.missed)) c.off_cleared.ensures
