-- `feed::values::temperatures_at` meets its contract. Assumes nothing.
use Rattle.std.proofs.Common.{◌+◌, ◌*◌, ap, rules}
use Rattle.feed.specs.Size.{temperature_count, temperature_length}
use Rattle.feed.specs.Bytes.{two}
use Rattle.feed.specs.Values.{words_at}
use Rattle.feed.proofs.Records.Tables.{table-made}
use Rattle.feed.proofs.values.temperatures_at.Goals as goal

pub returns : goal.returns
unfolding words_at
returns c =
    let a = c.args in
    ap (λ w. record { words = w })
    (table-made _ (λ k. two a.s.now (a.i + temperature_length * k)) _ (λ i x q h. search rules) _ temperature_count c.from_fn-words.ensures.items)
