-- `plain::jet::Jet::minor_steps` meets its contract. Assumes nothing.
use Rattle.plain.proofs.Steps.{minor-chain}
use Rattle.plain.proofs.jet.Jet.minor_steps.Goals as goal

pub returns : goal.returns
returns c =
    minor-chain c.args.next.gap c.args.next.missed c.args.said c.args.self
    c.recovered.ensures
    c.gapped.ensures c.off_failure.ensures c.manifold.ensures
