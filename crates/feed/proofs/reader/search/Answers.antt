-- `feed::reader::search` meets its contract. The loop's invariant: the store is as it was, and what is held and still to be read gives what
-- was to be read at the start. Assumes nothing.
use Rattle.std.proofs.Common.{◌≡◌, ℕ, ◌+◌, ◌-◌, ◌≤◌, max, ◌⊎◌, ⊎_elim, List, [], length, get_or, take, drop, sym, refl, ap, ◌∙◌, inl, inr, arith, length-drop, length-take-le, Some}
use native.Mathlib.Nat.{add-sub_cancel_left}
use Rattle.feed.specs.Size.{mark_byte}
use Rattle.feed.specs.Format.{mark_of, length_of, good_kind, look}
use Rattle.feed.specs.Reader.{store}
use Rattle.feed.specs.declared.format.Kind.{Kind}
use Rattle.feed.specs.declared.format.Look.TheVariants.{Waits}
use Rattle.feed.proofs.Records.Lengths.{below_or}
use Rattle.feed.proofs.Reading.Noise.{noise-within}
use Rattle.feed.proofs.Reading.Passing.{passing-start, passing-other, passing-no-mark, passing-lost}
use Rattle.feed.proofs.Reading.Passing.{end-waits, one-waits, kind-waits, waiting-fits, waiting-found, held_found, here_found}
use Rattle.feed.proofs.reader.search.Goals as goal
use Rattle.feed.proofs.reader.search.Goals.{else-loop-at-test, then-loop-at-test+else-piece-at-ne-MARK+then-piece-at-lt-MARK_LENGTH, then-loop-at-test+else-piece-at-ne-MARK+else-piece-at-lt-MARK_LENGTH+in-Some+then-piece-at, After-good, At-loop-at, Else-piece-at, Left-loop-at}

pub loop-at-init : goal.loop-at-init
loop-at-init c =
    let p = c.requires.from_le_taken in
    (refl, passing-start _ _ _ p.0 p.1 p.2)

-- ---- a byte that cannot begin a mark, and a byte like that of a mark

pub next_mark-at-requires : goal.next_mark-at-requires
next_mark-at-requires c = omega arith

pub loop-at-smaller-then-piece-at-ne-MARK : goal.loop-at-smaller-then-piece-at-ne-MARK
loop-at-smaller-then-piece-at-ne-MARK c =
    let piece = c.args.piece.now in
    let n = noise-within (drop (c.loop-at.at + 1) piece) in
    let d = length-drop (c.loop-at.at + 1) piece in
    omega (arith, c.next_mark-at.ensures)

pub loop-at-preserved-then-piece-at-ne-MARK : goal.loop-at-preserved-then-piece-at-ne-MARK
loop-at-preserved-then-piece-at-ne-MARK c =
    (c.loop-at.invariant.0, passing-other _ _ _ _ c.loop-at.invariant.1 (omega arith) c.if-piece-at-ne-MARK.true _ c.next_mark-at.ensures)

pub loop-at-preserved-in-None : goal.loop-at-preserved-in-None
loop-at-preserved-in-None c =
    let none = sym c.in-None.is ∙ c.mark_of.ensures in
    (c.loop-at.invariant.0, passing-no-mark _ _ _ _ c.loop-at.invariant.1 c.if-piece-at-ne-MARK.false c.if-piece-at-lt-MARK_LENGTH.false none)

-- ---- the mark of a kind, and all bytes of its record

abbrev piece : goal.Else-piece-at → List ℕ
piece c = c.args.piece.now

abbrev at : goal.Else-piece-at → ℕ
at c = c.loop-at.at

abbrev kind : goal.Else-piece-at → Kind
kind c = c.in-Some.k

first : (c : goal.Else-piece-at) → get_or (piece c) (at c) 0 ≡ mark_byte
first c = c.if-piece-at-ne-MARK.false

second : (c : goal.Else-piece-at) → Some (kind c) ≡ mark_of (get_or (piece c) (at c + 1) 0)
second c = sym c.in-Some.is ∙ c.mark_of.ensures

enough : (c : goal.Else-piece-at) → length_of (kind c) ≤ length (piece c) - at c
enough c = rw c.length_of-long.ensures at c.if-piece-at.false

pub good-requires : goal.good-requires
good-requires c =
    let e = enough (goal.at.good-requires c).Else-piece-at in
    let n = length-drop (at (goal.at.good-requires c).Else-piece-at) (piece (goal.at.good-requires c).Else-piece-at) in
    rw (add-sub_cancel_left (at (goal.at.good-requires c).Else-piece-at) c.length_of-long.result, c.length_of-long.ensures)
    (let l = length-take-le (length_of (kind (goal.at.good-requires c).Else-piece-at)) (drop (at (goal.at.good-requires c).Else-piece-at) (piece (goal.at.good-requires c).Else-piece-at)) (omega arith) in omega arith)

-- what is said of it
judged : (c : goal.After-good)
    → c.good.result ≡ good_kind c.in-Some.k (take (length_of c.in-Some.k) (drop c.loop-at.at c.args.piece.now))
judged c =
    c.good.ensures
    ∙ ap (λ (n : ℕ). good_kind c.in-Some.k (take n (drop c.loop-at.at c.args.piece.now)))
    (add-sub_cancel_left c.loop-at.at _ ∙ c.length_of-long.ensures)

-- the store is empty still
empty : (c : goal.At-loop-at) → c.loop-at.b ≡ store []
empty c = c.loop-at.invariant.0 ∙ c.requires.b_value

pub hold-requires : goal.hold-requires
hold-requires c =
    let t = c.loop-at.invariant.1 in
    record {
      b_value = empty (goal.at.hold-requires c).At-loop-at;
      at_le_end = (omega (arith, c.if-end-high.true), omega (arith, t.taken, c.max-high.ensures, c.if-end-high.true), omega (arith, t.fits, c.max-high.ensures, c.if-end-high.true));
    }

pub shape_of-b-then-end-high : goal.shape_of-b-then-end-high
shape_of-b-then-end-high c =
    c.hold.auto.b ∙ ap length c.loop-at.invariant.0

pub returns-then-end-high : goal.returns-then-end-high
returns-then-end-high c =
    let held = c.hold.ensures in
    let same : c.max-high.result ≡ c.loop-at.high = omega (arith, c.max-high.ensures, c.if-end-high.true) in
    rw (held.value, same)
    (held_found _ _ _ _ c.loop-at.invariant.1 (first (goal.at.returns-then-end-high c).Else-piece-at) (kind (goal.at.returns-then-end-high c).Else-piece-at) (second (goal.at.returns-then-end-high c).Else-piece-at) (enough (goal.at.returns-then-end-high c).Else-piece-at) (sym (judged (goal.at.returns-then-end-high c).After-good) ∙ c.if-good.true) _
    c.length_of-long.ensures (omega (arith, c.if-end-high.true)) _ (rw same at held.b_after))

pub shape_of-b-then-good : goal.shape_of-b-then-good
shape_of-b-then-good c = ap length c.loop-at.invariant.0

pub returns-then-good : goal.returns-then-good
returns-then-good c =
    here_found _ _ _ _ c.loop-at.invariant.1 (first (goal.at.returns-then-good c).Else-piece-at) (kind (goal.at.returns-then-good c).Else-piece-at) (second (goal.at.returns-then-good c).Else-piece-at) (enough (goal.at.returns-then-good c).Else-piece-at) (sym (judged (goal.at.returns-then-good c).After-good) ∙ c.if-good.true) _
    c.length_of-long.ensures (omega (arith, c.max-high.ensures, c.if-end-high.false)) _ (empty (goal.at.returns-then-good c).At-loop-at)

-- the higher of two
higher : (a b m : ℕ) → m ≡ max a b → (a ≤ m) × (b ≤ m) × ((m ≡ a) ⊎ (m ≡ b))
higher a b m e = (omega arith, omega arith, ⊎_elim (λ h. inr (omega arith)) (λ h. inl (omega arith)) (below_or a b))

pub loop-at-preserved : goal.loop-at-preserved
loop-at-preserved c =
    let n = c.length_of-long.ensures in
    let w = higher _ _ _ (c.max-high.ensures ∙ ap (λ (i : ℕ). max c.loop-at.high (c.loop-at.at + i)) n) in (
      c.loop-at.invariant.0,
      passing-lost _ _ _ _ c.loop-at.invariant.1 (first (goal.at.loop-at-preserved c).Else-piece-at) (kind (goal.at.loop-at-preserved c).Else-piece-at) (second (goal.at.loop-at-preserved c).Else-piece-at) (enough (goal.at.loop-at-preserved c).Else-piece-at)
          (sym (judged (goal.at.loop-at-preserved c).After-good) ∙ c.if-good.false) c.max-high.result w.0 w.1 w.2,
    )

-- ---- the reader waits

waits : (c : goal.Left-loop-at)
    → look (drop c.loop-at.at c.args.piece.now) ≡ Waits
waits c =
    let t = c.loop-at.invariant.1 in
    elim c.loop-at-test.branch [
      | else-loop-at-test w ↦ end-waits _ _ w.loop-at-test.false
      | then-loop-at-test+else-piece-at-ne-MARK+then-piece-at-lt-MARK_LENGTH w ↦
          one-waits _ _ _ _ t w.if-piece-at-ne-MARK.false w.if-piece-at-lt-MARK_LENGTH.true
      | then-loop-at-test+else-piece-at-ne-MARK+else-piece-at-lt-MARK_LENGTH+in-Some+then-piece-at w ↦
          kind-waits _ _ _ _ t w.if-piece-at-ne-MARK.false w.in-Some.k (sym w.in-Some.is ∙ w.mark_of.ensures)
          w.if-piece-at-lt-MARK_LENGTH.false
          (rw w.length_of-long.ensures at w.if-piece-at.true)
    ]

pub hold-requires-2 : goal.hold-requires-2
hold-requires-2 c =
    let t = c.loop-at.invariant.1 in
    let fits = waiting-fits _ _ _ _ t (waits (goal.at.hold-requires-2 c).Left-loop-at) in
    record {
      b_value = empty (goal.at.hold-requires-2 c).At-loop-at;
      at_le_end = (omega (arith, t.within), omega (arith, t.within), omega arith);
    }

pub shape_of-b : goal.shape_of-b
shape_of-b c = c.hold-2.auto.b ∙ ap length c.loop-at.invariant.0

pub returns : goal.returns
returns c =
    let held = c.hold-2.ensures in
    rw held.value (waiting-found _ _ _ _ c.loop-at.invariant.1 (waits (goal.at.returns c).Left-loop-at) _ held.b_after)
