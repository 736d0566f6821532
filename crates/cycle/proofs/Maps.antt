-- The map: it is refused exactly if some jet stands in two masks of one string; an accepted one has disjoint masks. Assumes nothing.
use Rattle.std.proofs.Common.{◌≡◌, ℕ, zero, suc, ◌^◌, ◌<◌, ◌≤◌, Bool, true, false, ◌&&◌, ◌||◌, ◌⊎◌, ◌↔◌, List, get_or, sym, refl, ap, ◌∙◌, inl, inr, ⊎_elim, le_of_suc-le-suc, not-suc-le-zero, eq-or-lt_of_le, arith}
use native.Mathlib.Decide.{dec_lt}
use lib.Bits.{bit_or}
use Rattle.bits.specs.Bit.{word_bits, bit, meets, any}
use Rattle.bits.proofs.Yes.{not-both, and_left, and_right, and_both, or_cases, or_left, or_right}
use Rattle.bits.proofs.Bits.{bit-or, bit-none, bit_past}
use Rattle.bits.proofs.Words.{meets-is, any_at, any_found}
use Rattle.cycle.specs.Size.{string_count, manifold_count}
use Rattle.cycle.specs.Map.{masks_of, InMask, FitMap, TwoMasks, mapped, overlap, refused}
use Rattle.cycle.specs.Proper.{Disjoint}
use Rattle.cycle.specs.declared.map.Masks.{Masks}

-- ---- the jets of several words

-- those of f 0, f 1, .., f (n - 1)
unfoldable pub union : (ℕ → ℕ) → ℕ → ℕ
union f zero = 0
union f (suc n) = bit_or (union f n) (f n)

module _ (f : ℕ → ℕ) (j : ℕ) where
  pub union-jet : (n i : ℕ) → i < n → bit j (f i) ≡ true → bit j (union f n) ≡ true
  unfolding union
  union-jet zero i l h = absurd (not-suc-le-zero l)
  union-jet (suc n) i l h =
      bit-or j (union f n) (f n)
      ∙ ⊎_elim (λ (e : i ≡ n). or_right (bit j (union f n)) (bit j (f n)) (ap (λ (k : ℕ). bit j (f k)) (sym e) ∙ h))
      (λ (b : i < n). or_left (bit j (union f n)) (bit j (f n)) (union-jet n i b h)) (eq-or-lt_of_le (le_of_suc-le-suc l))

  pub union-found : (n : ℕ) → bit j (union f n) ≡ true → (i : ℕ) × (i < n) × (bit j (f i) ≡ true)
  unfolding union
  union-found zero e = not-both (bit j 0) e (bit-none j)
  union-found (suc n) e =
      ⊎_elim
      (λ (h : bit j (union f n) ≡ true). let x = union-found n h in (x.0, omega (arith, x.1), x.2))
      (λ (h : bit j (f n) ≡ true). (n, omega arith, h))
      (or_cases (bit j (union f n)) (bit j (f n)) (sym (bit-or j (union f n) (f n)) ∙ e))

module _ (masks : List ℕ) where
  mapped-union : (n : ℕ) → mapped n masks ≡ union (λ i. get_or masks i 0) n
  unfolding mapped union
  mapped-union zero = refl
  mapped-union (suc n) = ap (λ (w : ℕ). bit_or w (get_or masks n 0)) (mapped-union n)

  -- a jet of one of the lowest n masks is mapped
  pub mapped-jet : (j n i : ℕ) → i < n → InMask masks i j → bit j (mapped n masks) ≡ true
  mapped-jet j n i l h = ap (bit j) (mapped-union n) ∙ union-jet (λ i. get_or masks i 0) j n i l h

  -- and a mapped jet stands in one of them
  pub mapped-found : (j n : ℕ) → bit j (mapped n masks) ≡ true → (i : ℕ) × (i < n) × InMask masks i j
  mapped-found j n e = union-found (λ i. get_or masks i 0) j n (ap (bit j) (sym (mapped-union n)) ∙ e)

-- ---- masks of one string

-- some jet stands in two of one string's lowest n masks
record Shared (n : ℕ) (masks : List ℕ) : Type 0 where
  one : ℕ
  other : ℕ
  jet : ℕ
  apart : one < other
  below : other < n
  in_one : InMask masks one jet
  in_other : InMask masks other jet

module _ (m : ℕ) (masks : List ℕ) (fits : (i : ℕ) → i < m → get_or masks i 0 < 2 ^ word_bits) where
  overlap-shared : (n : ℕ) → n ≤ m → overlap n masks ≡ true → Shared n masks
  unfolding overlap
  overlap-shared zero l e = not-both false e refl
  overlap-shared (suc n) l e =
      ⊎_elim
      (λ (h : overlap n masks ≡ true).
      let x = overlap-shared n (omega arith) h in
      record {
        one = x.one;
        other = x.other;
        jet = x.jet;
        apart = x.apart;
        below = omega (arith, x.below);
        in_one = x.in_one;
        in_other = x.in_other;
      })
      (λ (h : meets (get_or masks n 0) (mapped n masks) ≡ true).
      let x = any_found word_bits (λ j. bit j (get_or masks n 0) && bit j (mapped n masks))
      (sym (meets-is word_bits (get_or masks n 0) (mapped n masks) (fits n l)) ∙ h) in
      let mine : InMask masks n x.0 = and_left (bit x.0 (get_or masks n 0)) (bit x.0 (mapped n masks)) x.2 in
      let y = mapped-found masks x.0 n (and_right (bit x.0 (get_or masks n 0)) (bit x.0 (mapped n masks)) x.2) in
      record { one = y.0; other = n; jet = x.0; apart = y.1; below = omega arith; in_one = y.2; in_other = mine })
      (or_cases (overlap n masks) (meets (get_or masks n 0) (mapped n masks)) e)

  -- a bit of a word lies below its width
  pub in-word : (i j : ℕ) → i < m → InMask masks i j → j < word_bits
  in-word i j l h = by (dec_lt j word_bits)
    where
      by : Dec (j < word_bits) → j < word_bits
      by (yes b) = b
      by (no f) = not-both (bit j (get_or masks i 0)) h (bit_past word_bits j (get_or masks i 0) (fits i l) (omega arith))

  shared-overlap : (n : ℕ) → n ≤ m → Shared n masks → overlap n masks ≡ true
  unfolding overlap
  shared-overlap zero l x = absurd (not-suc-le-zero x.below)
  shared-overlap (suc n) l x = by (shared-overlap n (omega arith)) (eq-or-lt_of_le (le_of_suc-le-suc x.below))
    where
      at : InMask masks n x.jet → x.one < n → meets (get_or masks n 0) (mapped n masks) ≡ true
      at h b =
          meets-is word_bits (get_or masks n 0) (mapped n masks) (fits n l)
          ∙ any_at word_bits (λ j. bit j (get_or masks n 0) && bit j (mapped n masks)) x.jet (in-word n x.jet l h)
          (and_both (bit x.jet (get_or masks n 0)) (bit x.jet (mapped n masks)) h (mapped-jet masks x.jet n x.one b x.in_one))

      by : (Shared n masks → overlap n masks ≡ true) → (x.other ≡ n) ⊎ (x.other < n)
          → (overlap n masks || meets (get_or masks n 0) (mapped n masks)) ≡ true
      by lower (inl e) =
          or_right (overlap n masks) (meets (get_or masks n 0) (mapped n masks))
          (at (rw e at x.in_other) (omega (arith, x.apart)))
      by lower (inr b) =
          or_left (overlap n masks) (meets (get_or masks n 0) (mapped n masks))
          (lower
          (record { one = x.one; other = x.other; jet = x.jet; apart = x.apart; below = b; in_one = x.in_one; in_other = x.in_other }))

  -- no overlap: disjoint
  apart-masks : overlap m masks ≡ false → Disjoint m masks
  apart-masks e = record { fits = fits; apart = apart }
    where
      never : (i k j : ℕ) → i < k → k < m → InMask masks i j → InMask masks k j → ⊥
      never i k j l b p q =
          not-both (overlap m masks)
          (shared-overlap m (omega arith) (record { one = i; other = k; jet = j; apart = l; below = b; in_one = p; in_other = q })) e

      apart : (i k j : ℕ) → i < m → k < m → InMask masks i j → InMask masks k j → i ≡ k
      apart i k j li lk p q = by (dec_lt i k) (dec_lt k i)
        where
          by : Dec (i < k) → Dec (k < i) → i ≡ k
          by (yes b) c = absurd (never i k j b lk p q)
          by (no f) (yes b) = absurd (never k i j b li q p)
          by (no f) (no g) = omega arith

-- ---- the whole map

pub refused-exactly : (masks : List Masks) → FitMap masks → (refused string_count masks ≡ true) ↔ TwoMasks manifold_count masks
unfolding refused
refused-exactly masks fit = (to, back)
  where
    test : ℕ → Bool
    test s = overlap manifold_count (masks_of masks s)

    to : any string_count test ≡ true → TwoMasks manifold_count masks
    to e =
        let x = any_found string_count test e in
        let y = overlap-shared manifold_count (masks_of masks x.0) (λ i l. fit x.0 i x.1 l) manifold_count (omega arith) x.2 in
        record {
          string = x.0;
          one = y.one;
          other = y.other;
          jet = y.jet;
          in_hall = x.1;
          apart = y.apart;
          in_string = y.below;
          in_one = y.in_one;
          in_other = y.in_other;
        }

    back : TwoMasks manifold_count masks → any string_count test ≡ true
    back w =
        any_at string_count test w.string w.in_hall
        (shared-overlap manifold_count (masks_of masks w.string) (λ i l. fit w.string i w.in_hall l) manifold_count (omega arith)
        (record {
          one = w.one;
          other = w.other;
          jet = w.jet;
          apart = w.apart;
          below = w.in_string;
          in_one = w.in_one;
          in_other = w.in_other;
        }))

pub accepted-disjoint : (masks : List Masks) → FitMap masks → refused string_count masks ≡ false
    → (s : ℕ) → s < string_count → Disjoint manifold_count (masks_of masks s)
unfolding refused
accepted-disjoint masks fit e s l = apart-masks manifold_count (masks_of masks s) (λ i b. fit s i l b) (by (test s) refl)
  where
    test : ℕ → Bool
    test k = overlap manifold_count (masks_of masks k)

    by : (b : Bool) → test s ≡ b → test s ≡ false
    by true q = not-both (any string_count test) (any_at string_count test s l q) e
    by false q = q
