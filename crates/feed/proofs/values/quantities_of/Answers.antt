-- `feed::values::quantities_of` meets its contract. Assumes nothing.
use Rattle.std.proofs.Common.{◌+◌, ◌*◌, rules}
use Rattle.cycle.specs.Size.{module_count}
use Rattle.feed.specs.Size.{quantities_from, quantities_length}
use Rattle.feed.specs.Values.{quantities_at, quantities_of}
use Rattle.feed.proofs.Records.Tables.{table-made}
use Rattle.feed.proofs.values.quantities_of.Goals as goal

pub returns : goal.returns
unfolding quantities_of
returns c =
    let s = c.args.s.now in
    table-made _ (λ k. quantities_at s (quantities_from + quantities_length * k)) _ (λ i x q h. search rules) _ module_count c.from_fn.ensures.items
