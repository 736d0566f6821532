-- `feed::values::temperatures_of` meets its contract. Assumes nothing.
use Rattle.std.proofs.Common.{◌+◌, ◌*◌, rules}
use Rattle.cycle.specs.Size.{string_count}
use Rattle.feed.specs.Size.{temperatures_from, temperatures_length}
use Rattle.feed.specs.Values.{temperatures_at, temperatures_of}
use Rattle.feed.proofs.Records.Tables.{table-made}
use Rattle.feed.proofs.values.temperatures_of.Goals as goal

pub returns : goal.returns
unfolding temperatures_of
returns c =
    let s = c.args.s.now in
    table-made _ (λ k. temperatures_at s (temperatures_from + temperatures_length * k)) _ (λ i x q h. search rules) _ string_count c.from_fn.ensures.items
