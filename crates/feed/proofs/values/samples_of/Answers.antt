-- `feed::values::samples_of` meets its contract. Assumes nothing.
use Rattle.std.proofs.Common.{◌+◌, ◌*◌, rules}
use Rattle.cycle.specs.Size.{string_count}
use Rattle.feed.specs.Size.{samples_from, sample_length}
use Rattle.feed.specs.Values.{sample_at, samples_of}
use Rattle.feed.proofs.Records.Tables.{table-made}
use Rattle.feed.proofs.values.samples_of.Goals as goal

pub returns : goal.returns
unfolding samples_of
returns c =
    let s = c.args.s.now in
    table-made _ (λ k. sample_at s (samples_from + sample_length * k)) _ (λ i x q h. search rules) _ string_count c.from_fn.ensures.items
