-- `feed::hand::Reader::next` meets its contract. Assumes nothing.
use Rattle.std.proofs.Common.{◌≡◌, ℕ, ◌+◌, ◌-◌, ◌≤◌, List, length, take, sym, ap, ◌∙◌, zero-add, arith, rules}
use borrow.Rule.Slice.PartMut.{put_mid}
use Rattle.feed.specs.Size.{store_length, most_held}
use Rattle.feed.specs.Reader.{store, reads, held_count}
use Rattle.feed.specs.Handed.{held_by, handed_at, handed}
use Rattle.feed.specs.declared.hand.Reader.{Reader}
use Rattle.feed.specs.Format.{length_marked}
use Rattle.feed.specs.Inside.Finding.{long_of}
use Rattle.feed.proofs.Records.Lengths.{kind-long}
use Rattle.feed.proofs.Calls.Calling.{InOrder, put-in-order, held-short}
use Rattle.feed.proofs.Calls.Turning.{taken-short, found-fits, count_fits, held_fits, record-short, handed-none, handed-some}
use Rattle.feed.proofs.hand.Reader.next.Goals as goal
use Rattle.feed.proofs.hand.Reader.next.Goals.{After-length_of-long}

-- the store put in order
abbrev cleared : (held : List ℕ) (n : ℕ) (zeros : List ℕ) → List ℕ
cleared held n zeros = put_mid n (store_length - n) held zeros

few : (count claimed : ℕ) → count ≡ held_count claimed → count ≤ most_held
few count claimed e = rw e (held-short claimed)

pub slice_bounds-fill-count : goal.slice_bounds-fill-count
slice_bounds-fill-count c = omega (arith, few c.held_count-n.result c.args.self.count c.held_count-n.ensures)

pub slice_bounds-b-start : goal.slice_bounds-b-start
slice_bounds-b-start c = omega (arith, few c.held_count-n.result c.args.self.count c.held_count-n.ensures)

pub slice_bounds-b-end : goal.slice_bounds-b-end
slice_bounds-b-end c = let long : length c.args.self.held ≡ store_length = search rules in omega arith

pub slice_bounds-find-end : goal.slice_bounds-find-end
slice_bounds-find-end c =
    let m = c.args.self in
    let long : length m.held ≡ store_length = search rules in
    sym (put-in-order m.count m.held c.held_count-n.result c.fill.new.self long c.held_count-n.ensures (c.fill.ensures.after (λ y e. e))).long

pub find-f-requires : goal.find-f-requires
find-f-requires c =
    let m = c.args.self in
    let long : length m.held ≡ store_length = search rules in
    let x = put-in-order m.count m.held c.held_count-n.result c.fill.new.self long c.held_count-n.ensures (c.fill.ensures.after (λ y e. e)) in
    record { b_len = x.long; count_le_most_held = (x.short, x.order, omega arith) }

-- what was held where the record was looked for
abbrev held : (m : Reader) (n : ℕ) (zeros : List ℕ) → List ℕ
held m n zeros = take n (cleared m.held n zeros)

short : (m : Reader) (n : ℕ) (zeros : List ℕ) → InOrder m.count m.held (cleared m.held n zeros) n → length (held m n zeros) ≤ most_held
short m n zeros x = taken-short n (cleared m.held n zeros) x.short

-- it is what the reader handed in holds
as-held : (m : Reader) (p : List ℕ) (n : ℕ) (zeros : List ℕ) → InOrder m.count m.held (cleared m.held n zeros) n
    → handed_at (reads (held m n zeros) p) (0 + (length p - length (reads (held m n zeros) p).rest)) ≡ handed m p
unfolding handed
as-held m p n zeros x =
    ap (λ (l : List ℕ). handed_at (reads l p) (0 + (length p - length (reads l p).rest))) x.same
    ∙ ap (handed_at (reads (held_by m) p)) (zero-add _)

pub returns-in_default : goal.returns-in_default
returns-in_default c =
    let m = c.args.self in
    let n = c.held_count-n.result in
    let zeros = c.fill.new.self in
    let long : length m.held ≡ store_length = search rules in
    let x = put-in-order m.count m.held n zeros long c.held_count-n.ensures (c.fill.ensures.after (λ y e. e)) in
    handed-none (held m n zeros) c.args.piece.now 0 c.find-f.result c.find-f.new.b (short m n zeros x) (omega arith)
    c.find-f.ensures c.in_default.is
    ∙ as-held m c.args.piece.now n zeros x

-- the length is that of the record found, and not 0
same-long : (c : goal.After-length_of-long) → c.length_of-long.result ≡ long_of c.find-f.result
same-long c = c.length_of-long.ensures ∙ sym (ap length_marked c.in-Some.is)

some : (c : goal.After-length_of-long) → long_of c.find-f.result ≡ 0 → ⊥
some c z = let e = same-long c in let n = c.length_of-long.ensures in omega (arith, kind-long c.in-Some.kind)

pub found_bytes-requires : goal.found_bytes-requires
found_bytes-requires c =
    let m = c.args.self in
    let n = c.held_count-n.result in
    let zeros = c.fill.new.self in
    let long : length m.held ≡ store_length = search rules in
    let x = put-in-order m.count m.held n zeros long c.held_count-n.ensures (c.fill.ensures.after (λ y e. e)) in
    rw (same-long (goal.at.found_bytes-requires c).After-length_of-long)
    (found-fits (held m n zeros) c.args.piece.now 0 c.find-f.result c.find-f.new.b (short m n zeros x) (omega arith)
    c.find-f.ensures (some (goal.at.found_bytes-requires c).After-length_of-long))

pub padded-bytes-requires : goal.padded-bytes-requires
padded-bytes-requires c =
    let m = c.args.self in
    let n = c.held_count-n.result in
    let zeros = c.fill.new.self in
    let long : length m.held ≡ store_length = search rules in
    let x = put-in-order m.count m.held n zeros long c.held_count-n.ensures (c.fill.ensures.after (λ y e. e)) in
    rw (c.found_bytes.ensures, same-long (goal.at.padded-bytes-requires c).After-length_of-long)
    (record-short (held m n zeros) c.args.piece.now 0 c.find-f.result c.find-f.new.b (short m n zeros x) (omega arith)
    c.find-f.ensures (some (goal.at.padded-bytes-requires c).After-length_of-long))

pub removed-left-requires : goal.removed-left-requires
removed-left-requires c =
    let m = c.args.self in
    let n = c.held_count-n.result in
    let zeros = c.fill.new.self in
    let long : length m.held ≡ store_length = search rules in
    let x = put-in-order m.count m.held n zeros long c.held_count-n.ensures (c.fill.ensures.after (λ y e. e)) in
    rw (same-long (goal.at.removed-left-requires c).After-length_of-long) (record {
      count_in_bounds = count_fits (held m n zeros) c.args.piece.now 0 c.find-f.result c.find-f.new.b (short m n zeros x) (omega arith)
          c.find-f.ensures (some (goal.at.removed-left-requires c).After-length_of-long);
      long_le_count = held_fits (held m n zeros) c.args.piece.now 0 c.find-f.result c.find-f.new.b (short m n zeros x) (omega arith)
          c.find-f.ensures (some (goal.at.removed-left-requires c).After-length_of-long);
    })

pub returns : goal.returns
returns c =
    let m = c.args.self in
    let n = c.held_count-n.result in
    let zeros = c.fill.new.self in
    let long : length m.held ≡ store_length = search rules in
    let x = put-in-order m.count m.held n zeros long c.held_count-n.ensures (c.fill.ensures.after (λ y e. e)) in
    let e = same-long (goal.at.returns c).After-length_of-long in
    rw (← c.in-Some.is)
    (handed-some (held m n zeros) c.args.piece.now 0 c.find-f.result c.find-f.new.b (short m n zeros x) (omega arith)
    c.find-f.ensures (some (goal.at.returns c).After-length_of-long) c.padded-bytes.result c.removed-left.result c.removed-left.new.b
    (c.padded-bytes.ensures ∙ ap store (rw e at c.found_bytes.ensures)) (rw e at c.removed-left.ensures.0) (rw e at c.removed-left.ensures.1)
    ∙ as-held m c.args.piece.now n zeros x)
