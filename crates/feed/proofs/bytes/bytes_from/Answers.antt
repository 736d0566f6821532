-- `feed::bytes::bytes_from` meets its contract. Assumes nothing.
use Rattle.std.proofs.Common.{ℕ, ◌+◌, List, slice_index, refl, ◌∙◌, rules}
use Rattle.feed.proofs.Records.Tables.{table-made, table_same}
use Rattle.feed.proofs.Records.NumbersInBytes.{from-behind}
use Rattle.feed.proofs.bytes.bytes_from.Goals as goal

pub returns : goal.returns
returns g c =
    let a = c.args in
    let rest : List ℕ = c.unwrap_or-rest.result.now in
    table-made _ (λ (k : ℕ). slice_index rest k) _ (λ i x q h. search rules) _ g.row.N c.from_fn.ensures.items
    ∙ table_same (λ (k : ℕ). slice_index rest k) (λ (k : ℕ). slice_index a.s.now (a.i + k)) g.row.N
    (λ k b. from-behind a.s.now a.i c.get.result _ _ refl c.get.ensures.lookup c.unwrap_or-rest.ensures k)
