-- `calls::layout::hall_in` meets its contract. Assumes nothing.
use Rattle.std.proofs.Common.{refl, rules}
use Rattle.cycle.specs.Size.{string_count, module_count}
use Rattle.calls.specs.Layout.{hall_in}
use Rattle.calls.proofs.Laid.{masks_no, string_no, bank_no}
use Rattle.feed.proofs.Records.Tables.{table-made}
use Rattle.calls.proofs.layout.hall_in.Goals as goal

pub returns : goal.returns
unfolding hall_in
returns c =
    let l = c.args.b.now in
    rw (
      c.read_four.ensures,
      table-made _ (masks_no l) _ (λ i x q h. search rules) _ string_count c.from_fn.ensures.items,
      table-made _ (string_no l) _ (λ i x q h. search rules) _ string_count c.from_fn-2.ensures.items,
      table-made _ (bank_no l) _ (λ i x q h. search rules) _ module_count c.from_fn-3.ensures.items,
    )
    refl
