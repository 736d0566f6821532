-- Slices of a list put one behind the other: they are one slice, also where each shows an element of a list by a rule of its places.
-- Assumes nothing.
use mathlib.Core.Path.{◌≡◌, refl, sym, ap, ap₂, ◌∙◌}
use mathlib.Core.List.{List, [], ◌∷◌, ◌++◌}
use Prim.Native.Nat.{ℕ, zero, suc, ◌+◌, ◌*◌, ◌≤◌, ◌<◌}
use native.Mathlib.Nat.{mul-zero, mul-suc, mul-le-mul_left}
use native.Mathlib.Omega.{arith}
use lib.ListN.{length, get_or, take, drop}
use lib.Seq.{drop-cons, drop-drop, take-add}
use Rattle.cycle.specs.Each.{table}
use Rattle.feed.specs.Bytes.{parts}
use Rattle.feed.proofs.Records.Tables.{table_at}

-- the slice of k elements of l from place i on
abbrev pub slice_at : List ℕ → ℕ → ℕ → List ℕ
slice_at l i k = take k (drop i l)

module _ (l : List ℕ) where
  pub one-slice : (i b : ℕ) → i < length l → get_or l i 0 ≡ b → (b ∷ []) ≡ slice_at l i 1
  one-slice i b h e = sym (ap (take 1) (drop-cons l i 0 h) ∙ ap (λ (x : ℕ). x ∷ []) e)

  -- two slices, the second from where the first ends
  pub joined : {x y : List ℕ} (i m k j : ℕ) → i + m ≡ j → x ≡ slice_at l i m → y ≡ slice_at l j k → x ++ y ≡ slice_at l i (m + k)
  joined i m k j e f g =
      ap₂ (λ (s t : List ℕ). s ++ t) f (g ∙ ap (λ (n : ℕ). slice_at l n k) (sym e) ∙ sym (ap (take k) (drop-drop m i l)))
      ∙ sym (take-add m k (drop i l))

  -- n slices of k elements each
  parts-joined : (a k : ℕ) (f : ℕ → List ℕ) (n : ℕ) → ((s : ℕ) → s < n → f s ≡ slice_at l (a + k * s) k)
      → parts n f ≡ slice_at l a (k * n)
  unfolding parts
  parts-joined a k f zero h = ap (slice_at l a) (sym (mul-zero k))
  parts-joined a k f (suc n) h =
      joined a (k * n) k (a + k * n) refl (parts-joined a k f n (λ s b. h s (omega arith))) (h n (omega arith))
      ∙ ap (slice_at l a) (sym (mul-suc k n))

  -- elements of a table, each shown as a slice of k elements
  pub items-joined : {A : Type 0} (d : A) (item : ℕ → A) (show : A → List ℕ) (a k n : ℕ)
      → ((s : ℕ) → s < n → show (item s) ≡ slice_at l (a + k * s) k)
      → parts n (λ s. show (get_or (table n item) s d)) ≡ slice_at l a (k * n)
  items-joined d item show a k n h =
      parts-joined a k (λ s. show (get_or (table n item) s d)) n (λ s b. ap show (table_at item d n s b) ∙ h s b)

  -- elements read at places k apart, each shown as the slice that it was read from
  pub table-joined : {A : Type 0} (d : A) (read : ℕ → A) (show : A → List ℕ) (a k n : ℕ) → a + k * n ≤ length l
      → ((i : ℕ) → i + k ≤ length l → show (read i) ≡ slice_at l i k)
      → parts n (λ s. show (get_or (table n (λ t. read (a + k * t))) s d)) ≡ slice_at l a (k * n)
  table-joined d read show a k n fits h =
      items-joined d (λ t. read (a + k * t)) show a k n (λ s b.
      h (a + k * s) (omega (arith, mul-suc k s, mul-le-mul_left {m = suc s} {n = n} k b)))
