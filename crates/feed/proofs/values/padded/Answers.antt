-- `feed::values::padded` meets its contract. Assumes nothing.
use Rattle.std.proofs.Common.{ℕ, List, [], length, refl, ap, ◌∙◌, arith}
use borrow.Rule.Slice.PartMut.{put_mid}
use Rattle.feed.specs.Reader.{store}
use Rattle.feed.proofs.Reading.Stores.{store-put}
use Rattle.feed.proofs.values.padded.Goals as goal

pub returns : goal.returns
returns c =
    let s = c.args.s.now in
    ap (λ (t : List ℕ). put_mid 0 (length s) (store []) t) c.copy_from_slice.ensures.after
    ∙ store-put [] s 0 (length s) refl (omega arith) (omega (arith, c.requires))
