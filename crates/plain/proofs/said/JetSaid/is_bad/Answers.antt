-- `plain::said::JetSaid::is_bad` meets its contract. Assumes nothing.
use Rattle.cycle.specs.Jets.{is_bad}
use Rattle.plain.proofs.said.JetSaid.is_bad.Goals as goal

pub returns : goal.returns
unfolding is_bad
returns c = cc
