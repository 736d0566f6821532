-- What holds everywhere below a number. Assumes nothing.
use mathlib.Core.Path.{◌≡◌, refl, ap, ap₂, ◌∙◌}
use mathlib.Core.Bool.{Bool, true, false, ◌&&◌}
use mathlib.Core.Logic.{⊎_elim}
use Prim.Native.Nat.{ℕ, zero, suc, ◌+◌, ◌<◌}
use native.Mathlib.Nat.{le_of_suc-le-suc, eq-or-lt_of_le}
use native.Mathlib.Omega.{arith}
use native.Mathlib.Numerals.{add-one}
use Rattle.bits.specs.Bit.{every}
use Rattle.bits.proofs.Yes.{not-both, and_left, and_right, and_both, and_cases}

pub every-at : (n : ℕ) (f : ℕ → Bool) → every n f ≡ true → (j : ℕ) → j < n → f j ≡ true
unfolding every
every-at zero f e j l = absurd (omega arith)
every-at (suc n) f e j l =
    ⊎_elim (λ (q : j ≡ n). ap f q ∙ and_right (every n f) (f n) e) (λ (h : j < n). every-at n f (and_left (every n f) (f n) e) j h)
    (eq-or-lt_of_le (le_of_suc-le-suc l))

pub every-from : (n : ℕ) (f : ℕ → Bool) → ((j : ℕ) → j < n → f j ≡ true) → every n f ≡ true
unfolding every
every-from zero f e = refl
every-from (suc n) f e = and_both (every n f) (f n) (every-from n f (λ j l. e j (omega arith))) (e n (omega arith))

pub every-same : (n : ℕ) (f g : ℕ → Bool) → ((j : ℕ) → j < n → f j ≡ g j) → every n f ≡ every n g
unfolding every
every-same zero f g e = refl
every-same (suc n) f g e = ap₂ (λ (x y : Bool). x && y) (every-same n f g (λ j l. e j (omega arith))) (e n (omega arith))

-- one place more
pub every_more : (n : ℕ) (f : ℕ → Bool) (b : Bool) → b ≡ every n f → (b && f n) ≡ every (n + 1) f
unfolding every
every_more n f b e = rw (add-one, e)

-- what does not hold everywhere fails at some place
pub every-fails : (n : ℕ) (f : ℕ → Bool) → every n f ≡ false → (j : ℕ) × (j < n) × (f j ≡ false)
unfolding every
every-fails zero f e = not-both true refl e
every-fails (suc n) f e =
    ⊎_elim (λ (x : every n f ≡ false). let y = every-fails n f x in (y.0, omega (arith, y.1), y.2))
    (λ (x : f n ≡ false). (n, omega arith, x)) (and_cases (every n f) (f n) e)
