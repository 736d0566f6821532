-- `plain::string::PlainString::cycle` meets its contract. Assumes nothing.
use mathlib.Core.Path.{ap, ◌∙◌}
use Rattle.plain.specs.String.{only_mapped, cycle}
use Rattle.plain.proofs.string.PlainString.cycle.Goals as goal

pub returns : goal.returns
unfolding cycle
returns c = c.only_mapped.ensures ∙ ap (only_mapped c.args.self) c.steps.ensures
