-- The sum of bytes, one byte more, and partial sums; and what decides whether a record is good where the tests before it hold.
-- Assumes nothing.
use Rattle.std.proofs.Common.{◌≡◌, ℕ, zero, suc, ◌+◌, ◌-◌, ◌*◌, ◌%◌, ◌^◌, ◌<◌, ◌≤◌, Bool, true, false, ◌&&◌, List, [], ◌∷◌, ◌++◌, length, get_or, take, drop, sym, refl, ap, ◌∙◌, ap₂, add-one, arith, take-suc, take-add, eq-eqb, ne_eqb}
use native.Mathlib.Nat.{add-mod}
use Rattle.feed.specs.Size.{sum_span, minor_summed, major_summed, major_length}
use Rattle.feed.specs.Bytes.{two}
use Rattle.feed.specs.Format.{total, sum_of, sum_right, reserved_zero, quantities_right, good_minor, good_major}

total-append : (l m : List ℕ) → total (l ++ m) ≡ total l + total m
unfolding total
total-append [] m = omega arith
total-append (b ∷ l) m = omega (arith, total-append l m)

-- one byte more in the sum
pub sum_more : (s : List ℕ) (i : ℕ) → i < length s → (sum_of (take i s) + get_or s i 0) % 2 ^ 16 ≡ sum_of (take (i + 1) s)
unfolding sum_of total
sum_more s i h = rw (add-one, take-suc s i 0) (omega (arith, total-append (take i s) (get_or s i 0 ∷ [])))

-- ---- partial sums

-- joined by the wrapping addition they come to the sum of all bytes
pub sum-append : (l m : List ℕ) → (sum_of l + sum_of m) % 2 ^ 16 ≡ sum_of (l ++ m)
unfolding sum_of
sum-append l m = rw (total-append l m) (sym (add-mod (total l) (total m) sum_span))

pub sum-span : (l : List ℕ) (i k : ℕ) → (sum_of (take i l) + sum_of (take k (drop i l))) % 2 ^ 16 ≡ sum_of (take (i + k) l)
sum-span l i k = sum-append (take i l) (take k (drop i l)) ∙ ap sum_of (sym (take-add i k l))

-- r is what is left of g without the sum b of the last k bytes: g is the sum of i + k bytes if r is that of the first i, and only then
module _ (l : List ℕ) (i k g b r : ℕ) (eb : b ≡ sum_of (take k (drop i l))) (er : (r + b) % 2 ^ 16 ≡ g) where
  pub rest-right : r ≡ sum_of (take i l) → g ≡ sum_of (take (i + k) l)
  rest-right e = sym er ∙ ap₂ (λ (x y : ℕ). (x + y) % 2 ^ 16) e eb ∙ sum-span l i k

  pub rest-of-right : r < 2 ^ 16 → g ≡ sum_of (take (i + k) l) → r ≡ sum_of (take i l)
  unfolding sum_of
  rest-of-right h e = omega (arith, sum-span l i k)

-- what a wrapping subtraction leaves, added again
pub rest-back : (g b : ℕ) → g < 2 ^ 16 → b < 2 ^ 16 → ((g + (2 ^ 16 - b)) % 2 ^ 16 + b) % 2 ^ 16 ≡ g
rest-back g b h k = omega arith

-- a byte adds at most 255
total-most : (n : ℕ) (l : List ℕ) → ((i : ℕ) → get_or l i 0 < 256) → total (take n l) ≤ 255 * n
unfolding total
total-most zero l h = omega arith
total-most (suc n) [] h = omega arith
total-most (suc n) (b ∷ l) h = omega (arith, h 0, total-most n l (λ i. h (suc i)))

-- the sum of so few bytes does not wrap, and so is no less than that of a part
pub part-most : (l : List ℕ) → ((i : ℕ) → get_or l i 0 < 256) → (i k : ℕ) → i + k ≤ 257
    → sum_of (take k (drop i l)) ≤ sum_of (take (i + k) l)
unfolding sum_of
part-most l h i k few =
    omega (arith, total-most (i + k) l h, ap total (take-add i k l) ∙ total-append (take i l) (take k (drop i l)))

-- with the sum right, the rest decides
pub minor-sum : (l : List ℕ) → two l minor_summed ≡ sum_of (take minor_summed l) → reserved_zero l ≡ good_minor l
unfolding good_minor
minor-sum l e = simp (eq-eqb _ _ e)

pub minor-bad : (l : List ℕ) → (two l minor_summed ≡ sum_of (take minor_summed l) → ⊥) → false ≡ good_minor l
unfolding good_minor
minor-bad l h = simp (ne_eqb _ _ h)

pub major-sum : (l : List ℕ) → two l major_summed ≡ sum_of (take major_summed l) → (reserved_zero l && quantities_right l) ≡ good_major l
unfolding good_major
major-sum l e = simp (eq-eqb _ _ e)

pub major-bad : (l : List ℕ) → (two l major_summed ≡ sum_of (take major_summed l) → ⊥) → false ≡ good_major l
unfolding good_major
major-bad l h = simp (ne_eqb _ _ h)

-- a reserved bit that is set decides, whatever the sum is
pub major-reserved : (l : List ℕ) → reserved_zero l ≡ false → false ≡ good_major l
unfolding good_major
major-reserved l e = rw e (neither (sum_right major_length l))
  where
    neither : (a : Bool) → false ≡ (a && false && quantities_right l)
    neither true = refl
    neither false = refl
