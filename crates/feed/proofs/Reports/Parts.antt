-- A list that is put together from parts: its length, and what stands at a place. Assumes nothing.
use Rattle.std.proofs.Common.{◌≡◌, ℕ, zero, suc, ◌+◌, ◌*◌, ◌<◌, List, ◌++◌, length, get_or, sym, refl, ap, ◌∙◌, ap₂, ⊎_elim, le_of_suc-le-suc, not-suc-le-zero, eq-or-lt_of_le, mul-le-mul_left, mul-zero, mul-suc, arith, length-append, get_or-append-add}
use lib.ListN.{get_or-append}
use Rattle.feed.specs.Bytes.{parts}

-- behind the first part
pub get_d_past : (p q : List ℕ) (a i : ℕ) → length p ≡ a → get_or (p ++ q) (a + i) 0 ≡ get_or q i 0
get_d_past p q a i e = ap (λ (n : ℕ). get_or (p ++ q) (n + i) 0) (sym e) ∙ get_or-append-add p q i 0

-- parts of k elements each
module _ (k : ℕ) (f : ℕ → List ℕ) (long : (s : ℕ) → length (f s) ≡ k) where
  pub parts-length : (n : ℕ) → length (parts n f) ≡ k * n
  unfolding parts
  parts-length zero = sym (mul-zero k)
  parts-length (suc n) = length-append (parts n f) (f n) ∙ omega (arith, parts-length n, long n, mul-suc k n)

  pub parts_at : (n s i : ℕ) → s < n → i < k → get_or (parts n f) (k * s + i) 0 ≡ get_or (f s) i 0
  unfolding parts
  parts_at zero s i h j = absurd (not-suc-le-zero h)
  parts_at (suc n) s i h j =
      ⊎_elim
      (λ (e : s ≡ n). rw e (get_d_past (parts n f) (f n) (k * n) i (parts-length n)))
      (λ (b : s < n).
      get_or-append (parts n f) (f n) 0 (k * s + i)
      (omega (arith, parts-length n, mul-suc k s, mul-le-mul_left {m = suc s} {n = n} k b))
      ∙ parts_at n s i b j)
      (eq-or-lt_of_le (le_of_suc-le-suc h))

-- two rules that agree below n give the same list
pub parts_same : (f g : ℕ → List ℕ) (n : ℕ) → ((s : ℕ) → s < n → f s ≡ g s) → parts n f ≡ parts n g
unfolding parts
parts_same f g zero e = refl
parts_same f g (suc n) e = ap₂ (λ (p q : List ℕ). p ++ q) (parts_same f g n (λ s l. e s (omega arith))) (e n (omega arith))
