-- `feed::masks::masks_of` meets its contract. Assumes nothing.
use Rattle.std.proofs.Common.{◌*◌, sym, subst, rules}
use Rattle.cycle.specs.Size.{string_count}
use Rattle.cycle.specs.Map.{FitMap}
use Rattle.feed.specs.Size.{masks_length}
use Rattle.feed.specs.Masks.{masks_at, masks_of_bytes}
use Rattle.feed.proofs.Records.Tables.{table-made}
use Rattle.feed.proofs.Records.MapWords.{map-words}
use Rattle.feed.proofs.masks.masks_of.Goals as goal

pub returns : goal.returns
unfolding masks_of_bytes
returns c =
    let s = c.args.s.now in
    let e = table-made _ (λ k. masks_at s (masks_length * k)) _ (λ i x q h. search rules) _ string_count c.from_fn.ensures.items in
    (e, subst FitMap (sym e) (map-words s (λ i. (c.type_inv.s i).fits)))
