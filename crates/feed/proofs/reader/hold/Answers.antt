-- `feed::reader::hold` meets its contract. Assumes nothing.
use Rattle.std.proofs.Common.{◌≡◌, ◌-◌, ◌≤◌, [], length, take, drop, sym, refl, ap, ◌∙◌, arith, length-drop, length-take-le}
use Rattle.feed.specs.Size.{store_length}
use Rattle.feed.specs.Reader.{store}
use Rattle.feed.proofs.Reading.Stores.{length-store, store-put}
use Rattle.feed.proofs.reader.hold.Goals as goal
use Rattle.feed.proofs.reader.hold.Goals.{Start}

-- the whole store is there
long : (c : goal.Start) → length c.args.b.now ≡ store_length
long c = ap length c.requires.b_value ∙ length-store [] (omega arith)

pub slice_bounds-copy_from_slice-end : goal.slice_bounds-copy_from_slice-end
slice_bounds-copy_from_slice-end c = let e = long (goal.at.slice_bounds-copy_from_slice-end c).Start in let p = c.requires.at_le_end in omega arith

pub slice_bounds-copy_from_slice-end-2 : goal.slice_bounds-copy_from_slice-end-2
slice_bounds-copy_from_slice-end-2 c =
    let e = long (goal.at.slice_bounds-copy_from_slice-end-2 c).Start in
    let p = c.requires.at_le_end in
    sym (length-take-le _ c.args.b.now (omega arith))

-- as many bytes as places
part-long : (c : goal.Start)
    → length (take (c.args.end - c.args.at) (drop c.args.at c.args.piece.now)) ≡ c.args.end - c.args.at
part-long c =
    let p = c.requires.at_le_end in
    length-take-le _ (drop c.args.at c.args.piece.now) (rw (length-drop c.args.at c.args.piece.now) (omega arith))

pub copy_from_slice-requires : goal.copy_from_slice-requires
copy_from_slice-requires c =
    let e = long (goal.at.copy_from_slice-requires c).Start in
    let p = c.requires.at_le_end in
    length-take-le _ c.args.b.now (omega arith) ∙ sym (part-long (goal.at.copy_from_slice-requires c).Start)

pub returns : goal.returns
returns c =
    let a = c.args in
    let n = a.end - a.at in
    let y = c.copy_from_slice.new.self in
    let e : y ≡ take n (drop a.at a.piece.now) = c.copy_from_slice.ensures.after in
    let p = c.requires.at_le_end in
    let f : n ≤ store_length = p.2 in
    record {
      value = refl;
      b_after = rw c.requires.b_value (store-put [] y 0 n refl (ap length e ∙ part-long (goal.at.returns c).Start) (omega arith)) ∙ ap store e;
    }
