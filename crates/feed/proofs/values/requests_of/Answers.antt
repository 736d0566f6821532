-- `feed::values::requests_of` meets its contract. Assumes nothing.
use Rattle.std.proofs.Common.{◌+◌, ◌*◌, rules}
use Rattle.cycle.specs.Size.{string_count}
use Rattle.feed.specs.Size.{requests_from, requests_length, drops_from}
use Rattle.feed.specs.Values.{requests_at, requests_of}
use Rattle.feed.proofs.Records.Tables.{table-made}
use Rattle.feed.proofs.values.requests_of.Goals as goal

pub returns : goal.returns
unfolding requests_of
returns c =
    let s = c.args.s.now in
    table-made _ (λ k. requests_at s (requests_from + requests_length * k) (drops_from + k)) _ (λ i x q h. search rules) _ string_count c.from_fn.ensures.items
