-- `feed::masks::masks_at` meets its contract. Assumes nothing.
use Rattle.std.proofs.Common.{◌+◌, ◌*◌, sym, subst, ap, rules}
use Rattle.cycle.specs.Size.{manifold_count}
use Rattle.feed.specs.Size.{word_length}
use Rattle.feed.specs.Bytes.{four}
use Rattle.feed.specs.Masks.{mask_words_at}
use Rattle.feed.specs.Inside.MapWords.{WordMasks}
use Rattle.feed.proofs.Records.Tables.{table-made}
use Rattle.feed.proofs.Records.MapWords.{mask-words}
use Rattle.feed.proofs.masks.masks_at.Goals as goal

pub returns : goal.returns
unfolding mask_words_at
returns c =
    let a = c.args in
    let e = table-made _ (λ k. four a.s.now (a.i + word_length * k)) _ (λ i x q h. search rules) _ manifold_count c.from_fn-words.ensures.items in
    (ap (λ w. record { words = w }) e, subst WordMasks (sym e) (mask-words a.s.now (λ i. (c.type_inv.s i).fits) a.i))
