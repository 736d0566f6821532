-- `plain::said::drops_said` meets its contract. Assumes nothing.
use Rattle.std.proofs.Common.{rules}
use Rattle.bits.specs.Bit.{bit}
use Rattle.plain.specs.Said.{drops_said}
use Rattle.feed.proofs.Records.Tables.{table-made}
use Rattle.plain.proofs.said.drops_said.Goals as goal

pub returns : goal.returns
unfolding drops_said
returns c = table-made _ (λ i. bit i c.args.q.drop) _ (λ i y f k. search rules) _ _ c.from_fn.ensures.items
