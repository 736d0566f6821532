-- `feed::reader::fill` meets its contract. The loop's invariant: filling the store on from what it holds, with the rest of the piece, ends
-- as filling it from what was held at the start. The measure is what is left of the piece. Assumes nothing.
use Rattle.std.proofs.Common.{◌≡◌, ℕ, ◌+◌, ◌-◌, ◌<◌, ◌≤◌, false, eqb, is_some, List, length, get_or, take, drop, set, sym, refl, ap, ◌∙◌, arith, length-take-le}
use borrow.Author.Tests.{eqb-false}
use Rattle.bits.proofs.Yes.{or-none-left, or-none-right}
use Rattle.feed.specs.Size.{store_length}
use Rattle.feed.specs.Reader.{settle, store}
use Rattle.feed.specs.Inside.Finding.{fills}
use Rattle.feed.proofs.Reading.Fronts.{settle-short}
use Rattle.feed.proofs.Reading.Stores.{length-store}
use Rattle.feed.proofs.Reading.Turns.{Turn, turn-long, turn-fits, turn-count, turn_at, turn-stay, turn-gone}
use Rattle.feed.proofs.Reading.Turns.{turn-over, turn-found, turn-room, turn_more}
use Rattle.feed.proofs.Reading.Copies.{calm-room, turn-copy, part-long}
use Rattle.feed.proofs.reader.fill.Goals as goal
use Rattle.feed.proofs.reader.fill.Goals.{then-f-gt0, else-f-gt0, After-calm-k, After-row_known-in-loop-b-1, Else-is_some-used, Joined-f-gt0}

pub loop-b-init : goal.loop-b-init
loop-b-init c =
    let a = c.args in
    let p = c.requires in
    record {
      held = take a.count a.b.now;
      long = length-take-le a.count a.b.now (omega arith);
      fits = omega arith;
      stored = p.count_le_most_held.1;
      on = omega arith;
      within = p.count_le_most_held.2;
      same = let z : a.from - a.from ≡ 0 = omega arith in rw z refl;
    }

pub slice_bounds-find_front-end : goal.slice_bounds-find_front-end
slice_bounds-find_front-end c = turn-fits _ _ _ _ _ _ c.loop-b.invariant

pub slice_bounds-find_front-end-in-loop-b : goal.slice_bounds-find_front-end-in-loop-b
slice_bounds-find_front-end-in-loop-b c = turn-count _ _ _ _ _ _ c.loop-b.invariant

pub slice_bounds-shift-end : goal.slice_bounds-shift-end
slice_bounds-shift-end c = turn-fits _ _ _ _ _ _ c.loop-b.invariant

pub slice_bounds-shift-end-then-f-gt0 : goal.slice_bounds-shift-end-then-f-gt0
slice_bounds-shift-end-then-f-gt0 c = turn-count _ _ _ _ _ _ c.loop-b.invariant

pub shift-requires : goal.shift-requires
shift-requires c =
    let t = c.loop-b.invariant in
    let k = turn_at _ _ _ _ _ _ t _ c.find_front-f.ensures in
    omega (arith, turn-count _ _ _ _ _ _ t)

pub overflow_sub-n : goal.overflow_sub-n
overflow_sub-n c =
    turn_at _ _ _ _ _ _ c.loop-b.invariant _ c.find_front-f.ensures

-- what this turn leaves of what was held
abbrev left : goal.Joined-f-gt0 → List ℕ
left c = settle c.loop-b.invariant.held

-- where the arms meet: the store holds that, from its front
joined : (c : goal.Joined-f-gt0) → (c.if-f-gt0.b ≡ store (left c)) × (c.if-f-gt0.n ≡ length (left c))
joined c =
    let t = c.loop-b.invariant in
    let f = c.find_front-f.ensures in
    elim c.if-f-gt0.branch [
      | then-f-gt0 w ↦ let g = turn-gone _ _ _ _ _ _ t _ f w.shift.new.s w.shift.ensures in (w.b-is ∙ g.0, w.n-is ∙ g.1)
      | else-f-gt0 w ↦ let g = turn-stay _ _ _ _ _ _ t _ f w.if-f-gt0.false in (w.b-is ∙ g.0, w.n-is ∙ g.1)
    ]

-- the store stays as long as it is
same : (c : goal.Joined-f-gt0) → length c.if-f-gt0.b ≡ store_length
same c =
    let t = c.loop-b.invariant in
    let j = joined c in
    let k = settle-short t.held in
    ap length j.0 ∙ length-store (settle t.held) (omega (arith, t.long, t.fits))

pub shape_of-b-then-n-used : goal.shape_of-b-then-n-used
shape_of-b-then-n-used c =
    same (goal.at.shape_of-b-then-n-used c).Joined-f-gt0 ∙ sym c.requires.b_len

-- no older byte is held
pub returns-then-n-used : goal.returns-then-n-used
returns-then-n-used c =
    let j = joined (goal.at.returns-then-n-used c).Joined-f-gt0 in
    let g = turn-over _ _ _ _ _ _ c.loop-b.invariant _ c.find_front-f.ensures _ _ j.0 j.1 c.if-n-used.true in
    record { value = g.0; b_after = g.1 }

pub shape_of-b-then-is_some-used : goal.shape_of-b-then-is_some-used
shape_of-b-then-is_some-used c =
    same (goal.at.shape_of-b-then-is_some-used c).Joined-f-gt0 ∙ sym c.requires.b_len

-- one is, and a record is settled or the piece is used up
pub returns-then-is_some-used : goal.returns-then-is_some-used
returns-then-is_some-used c =
    let j = joined (goal.at.returns-then-is_some-used c).Joined-f-gt0 in
    let g = turn-found _ _ _ _ _ _ c.loop-b.invariant _ c.find_front-f.ensures _ _ j.0 j.1 c.if-n-used.false (rw c.is_some.ensures at c.if-is_some-used.true) in
    record { value = g.0; b_after = g.1 }

-- a byte is there, and a place is free
none : (c : goal.Else-is_some-used) → is_some c.find_front-f.result.settled ≡ false
none c = sym c.is_some.ensures ∙ or-none-left c.is_some.result _ c.if-is_some-used.false

more : (c : goal.Else-is_some-used)
    → c.loop-b.used
    < length c.args.piece.now
more c =
    let n = length c.args.piece.now in
    let e = eqb-false c.loop-b.used n (or-none-right c.is_some.result (eqb c.loop-b.used n) c.if-is_some-used.false) in
    omega (arith, c.loop-b.invariant.within)

pub bounds-piece-used : goal.bounds-piece-used
bounds-piece-used c = more (goal.at.bounds-piece-used c).Else-is_some-used

room : (c : goal.Else-is_some-used) → (c.if-f-gt0.b ≡ store (settle c.loop-b.invariant.held)) × (c.if-f-gt0.n ≡ length (settle c.loop-b.invariant.held))
    → c.if-f-gt0.n < store_length
room c j =
    turn-room _ _ _ _ _ _ c.loop-b.invariant _ c.find_front-f.ensures _ _ j.0 j.1 (none c)

pub bounds-b-n : goal.bounds-b-n
bounds-b-n c =
    let r = room (goal.at.bounds-b-n c).Else-is_some-used (joined (goal.at.bounds-b-n c).Joined-f-gt0) in
    omega (arith, same (goal.at.bounds-b-n c).Joined-f-gt0)

pub overflow_add-n : goal.overflow_add-n
overflow_add-n c = let r = room (goal.at.overflow_add-n c).Else-is_some-used (joined (goal.at.overflow_add-n c).Joined-f-gt0) in omega arith

-- the byte is taken
taken : (c : goal.After-row_known-in-loop-b-1) → (c.if-f-gt0.b ≡ store (settle c.loop-b.invariant.held)) × (c.if-f-gt0.n ≡ length (settle c.loop-b.invariant.held))
    → is_some c.find_front-f.result.settled ≡ false → c.loop-b.used < length c.args.piece.now
    → Turn
    (fills 0 (take c.args.count c.args.b.now) (drop c.args.from c.args.piece.now))
    c.args.piece.now
    c.args.from
    (set c.if-f-gt0.b c.if-f-gt0.n (get_or c.args.piece.now c.loop-b.used 0))
    (c.if-f-gt0.n + 1)
    (c.loop-b.used + 1)
taken c j n m =
    turn_more _ _ _ _ _ _ c.loop-b.invariant _ c.find_front-f.ensures _ _ j.0 j.1 c.if-n-used.false n m

-- an older byte is held still
older : (c : goal.After-row_known-in-loop-b-1) → c.loop-b.used + 1 - c.args.from < c.if-f-gt0.n + 1
older c = omega (arith, c.loop-b.invariant.on, c.if-n-used.false)

pub slice_bounds-calm-end : goal.slice_bounds-calm-end
slice_bounds-calm-end c = turn-fits _ _ _ _ _ _ (taken (goal.at.slice_bounds-calm-end c).After-row_known-in-loop-b-1 (joined (goal.at.slice_bounds-calm-end c).Joined-f-gt0) (none (goal.at.slice_bounds-calm-end c).Else-is_some-used) (more (goal.at.slice_bounds-calm-end c).Else-is_some-used))

pub slice_bounds-calm-end-in-loop-b : goal.slice_bounds-calm-end-in-loop-b
slice_bounds-calm-end-in-loop-b c = turn-count _ _ _ _ _ _ (taken (goal.at.slice_bounds-calm-end-in-loop-b c).After-row_known-in-loop-b-1 (joined (goal.at.slice_bounds-calm-end-in-loop-b c).Joined-f-gt0) (none (goal.at.slice_bounds-calm-end-in-loop-b c).Else-is_some-used) (more (goal.at.slice_bounds-calm-end-in-loop-b c).Else-is_some-used))

pub overflow_sub-piece : goal.overflow_sub-piece
overflow_sub-piece c = (taken (goal.at.overflow_sub-piece c).After-row_known-in-loop-b-1 (joined (goal.at.overflow_sub-piece c).Joined-f-gt0) (none (goal.at.overflow_sub-piece c).Else-is_some-used) (more (goal.at.overflow_sub-piece c).Else-is_some-used)).within

-- the bytes that are taken with no look fit
calmly : (c : goal.After-calm-k) → Turn
    (fills 0 (take c.args.count c.args.b.now) (drop c.args.from c.args.piece.now))
    c.args.piece.now
    c.args.from
    (set c.if-f-gt0.b c.if-f-gt0.n (get_or c.args.piece.now c.loop-b.used 0))
    (c.if-f-gt0.n + 1)
    (c.loop-b.used + 1)
    → (c.if-f-gt0.n + 1 + c.calm-k.result ≤ store_length)
    × (c.loop-b.used + 1 + c.calm-k.result ≤ length c.args.piece.now)
calmly c t = calm-room _ _ _ _ _ _ _ t (omega (arith, c.loop-b.invariant.on, c.if-n-used.false)) c.calm-k.ensures

pub overflow_add-n-in-loop-b : goal.overflow_add-n-in-loop-b
overflow_add-n-in-loop-b c = let r = calmly (goal.at.overflow_add-n-in-loop-b c).After-calm-k (taken (goal.at.overflow_add-n-in-loop-b c).After-row_known-in-loop-b-1 (joined (goal.at.overflow_add-n-in-loop-b c).Joined-f-gt0) (none (goal.at.overflow_add-n-in-loop-b c).Else-is_some-used) (more (goal.at.overflow_add-n-in-loop-b c).Else-is_some-used)) in omega arith

pub slice_bounds-copy_from_slice-end : goal.slice_bounds-copy_from_slice-end
slice_bounds-copy_from_slice-end c = let r = calmly (goal.at.slice_bounds-copy_from_slice-end c).After-calm-k (taken (goal.at.slice_bounds-copy_from_slice-end c).After-row_known-in-loop-b-1 (joined (goal.at.slice_bounds-copy_from_slice-end c).Joined-f-gt0) (none (goal.at.slice_bounds-copy_from_slice-end c).Else-is_some-used) (more (goal.at.slice_bounds-copy_from_slice-end c).Else-is_some-used)) in let e = turn-long _ _ _ _ _ _ (taken (goal.at.slice_bounds-copy_from_slice-end c).After-row_known-in-loop-b-1 (joined (goal.at.slice_bounds-copy_from_slice-end c).Joined-f-gt0) (none (goal.at.slice_bounds-copy_from_slice-end c).Else-is_some-used) (more (goal.at.slice_bounds-copy_from_slice-end c).Else-is_some-used)) in omega arith

pub overflow_add-used-in-loop-b : goal.overflow_add-used-in-loop-b
overflow_add-used-in-loop-b c = let r = calmly (goal.at.overflow_add-used-in-loop-b c).After-calm-k (taken (goal.at.overflow_add-used-in-loop-b c).After-row_known-in-loop-b-1 (joined (goal.at.overflow_add-used-in-loop-b c).Joined-f-gt0) (none (goal.at.overflow_add-used-in-loop-b c).Else-is_some-used) (more (goal.at.overflow_add-used-in-loop-b c).Else-is_some-used)) in omega arith

pub slice_bounds-copy_from_slice-end-in-loop-b : goal.slice_bounds-copy_from_slice-end-in-loop-b
slice_bounds-copy_from_slice-end-in-loop-b c = let r = calmly (goal.at.slice_bounds-copy_from_slice-end-in-loop-b c).After-calm-k (taken (goal.at.slice_bounds-copy_from_slice-end-in-loop-b c).After-row_known-in-loop-b-1 (joined (goal.at.slice_bounds-copy_from_slice-end-in-loop-b c).Joined-f-gt0) (none (goal.at.slice_bounds-copy_from_slice-end-in-loop-b c).Else-is_some-used) (more (goal.at.slice_bounds-copy_from_slice-end-in-loop-b c).Else-is_some-used)) in omega arith

pub copy_from_slice-requires : goal.copy_from_slice-requires
copy_from_slice-requires c =
    let r = calmly (goal.at.copy_from_slice-requires c).After-calm-k (taken (goal.at.copy_from_slice-requires c).After-row_known-in-loop-b-1 (joined (goal.at.copy_from_slice-requires c).Joined-f-gt0) (none (goal.at.copy_from_slice-requires c).Else-is_some-used) (more (goal.at.copy_from_slice-requires c).Else-is_some-used)) in
    let e = turn-long _ _ _ _ _ _ (taken (goal.at.copy_from_slice-requires c).After-row_known-in-loop-b-1 (joined (goal.at.copy_from_slice-requires c).Joined-f-gt0) (none (goal.at.copy_from_slice-requires c).Else-is_some-used) (more (goal.at.copy_from_slice-requires c).Else-is_some-used)) in
    part-long _ (c.if-f-gt0.n + 1) c.calm-k.result (omega arith)
    ∙ sym (part-long c.args.piece.now (c.loop-b.used + 1) c.calm-k.result r.1)

pub overflow_add-n-in-loop-b-2 : goal.overflow_add-n-in-loop-b-2
overflow_add-n-in-loop-b-2 c = let r = calmly (goal.at.overflow_add-n-in-loop-b-2 c).After-calm-k (taken (goal.at.overflow_add-n-in-loop-b-2 c).After-row_known-in-loop-b-1 (joined (goal.at.overflow_add-n-in-loop-b-2 c).Joined-f-gt0) (none (goal.at.overflow_add-n-in-loop-b-2 c).Else-is_some-used) (more (goal.at.overflow_add-n-in-loop-b-2 c).Else-is_some-used)) in omega arith

pub overflow_add-used-in-loop-b-2 : goal.overflow_add-used-in-loop-b-2
overflow_add-used-in-loop-b-2 c = let r = calmly (goal.at.overflow_add-used-in-loop-b-2 c).After-calm-k (taken (goal.at.overflow_add-used-in-loop-b-2 c).After-row_known-in-loop-b-1 (joined (goal.at.overflow_add-used-in-loop-b-2 c).Joined-f-gt0) (none (goal.at.overflow_add-used-in-loop-b-2 c).Else-is_some-used) (more (goal.at.overflow_add-used-in-loop-b-2 c).Else-is_some-used)) in omega arith

pub loop-b-smaller : goal.loop-b-smaller
loop-b-smaller c = let r = calmly (goal.at.loop-b-smaller c).After-calm-k (taken (goal.at.loop-b-smaller c).After-row_known-in-loop-b-1 (joined (goal.at.loop-b-smaller c).Joined-f-gt0) (none (goal.at.loop-b-smaller c).Else-is_some-used) (more (goal.at.loop-b-smaller c).Else-is_some-used)) in omega arith

pub loop-b-preserved : goal.loop-b-preserved
loop-b-preserved c =
    let k = c.copy_from_slice in
    turn-copy _ _ _ _ _ _ c.calm-k.result (taken (goal.at.loop-b-preserved c).After-row_known-in-loop-b-1 (joined (goal.at.loop-b-preserved c).Joined-f-gt0) (none (goal.at.loop-b-preserved c).Else-is_some-used) (more (goal.at.loop-b-preserved c).Else-is_some-used)) (older (goal.at.loop-b-preserved c).After-row_known-in-loop-b-1) c.calm-k.ensures k.new.self
    k.ensures.after
