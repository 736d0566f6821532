-- `feed::reader::find` meets its contract. Assumes nothing.
use Rattle.std.proofs.Common.{◌≡◌, ℕ, [], length, take, sym, ap, ◌∙◌, arith, length-take-le}
use Rattle.feed.specs.Reader.{store}
use Rattle.feed.proofs.Reading.Stores.{length-store}
use Rattle.feed.proofs.Reading.Finding.{Ready, ready-none, ready-finds, filled-finds, count-within, cleared-empty, filled-ready}
use Rattle.feed.proofs.reader.find.Goals as goal
use Rattle.feed.proofs.reader.find.Goals.{then-count-gt0+in-Some, else-count-gt0, Joined-count-gt0}

pub returns-in_default : goal.returns-in_default
returns-in_default c =
    let e = c.fill-f.ensures in
    filled-finds _ _ _ c.requires.count_le_most_held.2 _ _ e.value e.b_after c.in_default.is

pub slice_bounds-fill-end : goal.slice_bounds-fill-end
slice_bounds-fill-end c =
    let e = c.fill-f.ensures in
    let n = c.fill-f.auto.b ∙ c.requires.b_len in
    let m = count-within _ _ _ c.requires.count_le_most_held.2 _ _ e.value e.b_after n in
    omega arith

pub slice_bounds-fill-end-then-count-gt0 : goal.slice_bounds-fill-end-then-count-gt0
slice_bounds-fill-end-then-count-gt0 c =
    sym (length-take-le c.fill-f.result.count c.fill-f.new.b (let e = c.fill-f.ensures in let n = c.fill-f.auto.b ∙ c.requires.b_len in let m = count-within _ _ _ c.requires.count_le_most_held.2 _ _ e.value e.b_after n in omega arith))

-- where the arms meet: the store is empty, and the search in the piece can begin
joined : (c : goal.Joined-count-gt0)
    → (c.if-count-gt0.b ≡ store [])
    × Ready
    (take c.args.count c.args.b.now)
    c.args.piece.now
    c.args.from
    c.if-count-gt0.at
    c.if-count-gt0.taken
joined c =
    let a = c.args in
    let p = c.requires.count_le_most_held in
    elim c.if-count-gt0.branch [
      | then-count-gt0+in-Some w ↦
          let e = w.fill-f.ensures in
          let n = w.fill-f.auto.b ∙ c.requires.b_len in (
            w.b-is ∙ cleared-empty _ _ _ p.2 _ _ e.value e.b_after n w.fill.new.self (w.fill.ensures.after (λ y e. e)),
            rw (w.at-is, w.taken-is) (filled-ready _ _ _ p.2 _ _ e.value e.b_after n w.in-Some.place w.in-Some.is),
          )
      | else-count-gt0 w ↦
          let z : a.count ≡ 0 = omega (arith, w.if-count-gt0.false) in
          let none : take a.count a.b.now ≡ [] = ap (λ (n : ℕ). take n a.b.now) z in
          (w.b-is ∙ p.1 ∙ ap store none, rw (w.at-is, w.taken-is) (ready-none _ _ _ none p.2))
    ]

pub search-requires : goal.search-requires
search-requires c =
    let j = joined (goal.at.search-requires c).Joined-count-gt0 in
    record {
      b_value = j.0;
      from_le_taken = (j.1.on, j.1.within, j.1.fits);
    }

pub shape_of-b : goal.shape_of-b
shape_of-b c =
    c.search.auto.b ∙ ap length (joined (goal.at.shape_of-b c).Joined-count-gt0).0 ∙ length-store [] (omega arith) ∙ sym c.requires.b_len

pub returns : goal.returns
returns c =
    ready-finds _ _ _ _ _ _ _ (joined (goal.at.returns c).Joined-count-gt0).1 c.search.ensures
