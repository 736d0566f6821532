-- `feed::step::step` meets its contract. Assumes nothing.
use Rattle.std.proofs.Common.{sym, ◌∙◌}
use Rattle.feed.specs.Step.{step_of}
use Rattle.feed.proofs.step.step.Goals as goal

pub step_values-requires : goal.step_values-requires
step_values-requires c = sym c.is_whole.ensures ∙ c.if-is_whole.true

pub returns-then-is_whole : goal.returns-then-is_whole
returns-then-is_whole c = c.step_values.ensures

pub returns-else-is_whole : goal.returns-else-is_whole
unfolding step_of
returns-else-is_whole c = rw (sym c.is_whole.ensures ∙ c.if-is_whole.false)
