-- `feed::format::good_minor` meets its contract: what is left without a partial sum is right where the sum is, and only there.
-- Assumes nothing.
use Rattle.std.proofs.Common.{◌≡◌, ℕ, ◌+◌, ◌-◌, ◌%◌, List, take, sym, ◌∙◌, arith, rules, length-take-le}
use Rattle.feed.specs.Size.{minor_summed}
use Rattle.feed.specs.Bytes.{two}
use Rattle.feed.specs.Format.{sum_of}
use Rattle.feed.proofs.Records.Sums.{rest-right, rest-of-right, rest-back, part-most, minor-sum, minor-bad}
use Rattle.feed.proofs.format.good_minor.Goals as goal
use Rattle.feed.proofs.format.good_minor.Goals.{After-sum-middle}

-- where the last span begins, and the one before it
abbrev last : ℕ
last = 25

abbrev middle : ℕ
middle = 9

-- where the sums of the last and the middle span are known: the bytes
abbrev bytes : goal.After-sum-middle → List ℕ
bytes c = c.args.s.now

-- is the sum right
abbrev Right : goal.After-sum-middle → Type 0
Right c = two (bytes c) minor_summed ≡ sum_of (take minor_summed (bytes c))

-- what is left without the last span, and without the middle one
abbrev rest : goal.After-sum-middle → ℕ
rest c = (c.two_at.result + (65536 - c.sum.result)) % 65536

abbrev less : goal.After-sum-middle → ℕ
less c = (rest c + (65536 - c.sum-middle.result)) % 65536

-- and is it right
abbrev RestRight : goal.After-sum-middle → Type 0
RestRight c = rest c ≡ sum_of (take last (bytes c))

right : (c : goal.After-sum-middle) → RestRight c → Right c
right c =
    rest-right (bytes c) last 32 _ _ (rest c) c.sum.ensures
    (rest-back c.two_at.result c.sum.result (search rules) (search rules) ∙ c.two_at.ensures)

of_right : (c : goal.After-sum-middle) → Right c → RestRight c
of_right c =
    rest-of-right (bytes c) last 32 _ _ (rest c) c.sum.ensures
    (rest-back c.two_at.result c.sum.result (search rules) (search rules) ∙ c.two_at.ensures) (omega arith)

pub returns-then-rest-middle : goal.returns-then-rest-middle
returns-then-rest-middle c =
    let l = bytes (goal.at.returns-then-rest-middle c).After-sum-middle in
    let most = part-most l (λ i. (c.type_inv.s i).fits) middle 16 (omega arith) in
    minor-bad l (λ e. let r = of_right (goal.at.returns-then-rest-middle c).After-sum-middle e in let m = c.sum-middle.ensures in absurd (omega arith))

pub slice_bounds-sum-end-3 : goal.slice_bounds-sum-end-3
slice_bounds-sum-end-3 c = sym (length-take-le middle c.args.s.now (omega arith))

pub returns-then-rest-middle-2 : goal.returns-then-rest-middle-2
returns-then-rest-middle-2 c =
    let d = (goal.at.returns-then-rest-middle-2 c).After-sum-middle in
    let only = rest-of-right (bytes d) middle 16 (rest d) _ (less d) c.sum-middle.ensures
    (rest-back (rest d) c.sum-middle.result (omega arith) (search rules)) (omega arith) in
    minor-bad (bytes d) (λ e. c.if-rest-middle-2.true (only (of_right d e) ∙ sym c.sum-2.ensures))

pub returns : goal.returns
returns c =
    let d = (goal.at.returns c).After-sum-middle in
    let left = rest-right (bytes d) middle 16 (rest d) _ (less d) c.sum-middle.ensures
    (rest-back (rest d) c.sum-middle.result (omega arith) (search rules))
    (c.if-rest-middle-2.false ∙ c.sum-2.ensures) in
    c.reserved_zero.ensures ∙ minor-sum (bytes d) (right d left)
