-- `calls::layout::per_manifold` meets its contract. Assumes nothing.
use Rattle.std.proofs.Common.{◌+◌, rules}
use Rattle.cycle.specs.Size.{manifold_count}
use Rattle.calls.specs.Layout.{word_in}
use Rattle.feed.proofs.Records.Tables.{table-made}
use Rattle.calls.proofs.layout.per_manifold.Goals as goal

pub returns : goal.returns
returns c =
    let a = c.args in
    table-made _ (λ m. word_in a.b.now a.i (a.k + m)) _ (λ i x q h. search rules) _ manifold_count c.from_fn.ensures.items
