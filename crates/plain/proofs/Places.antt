-- The map jet by jet: a jet's place is the manifold whose mask has it, and the map is refused exactly where the packed test refuses it.
-- Assumes nothing.
use mathlib.Core.Path.{◌≡◌, refl, sym, ap, ◌∙◌}
use mathlib.Core.Bool.{Bool, true, false, cond, ◌&&◌}
use mathlib.Core.List.{List}
use mathlib.Core.Logic.{⊎_elim}
use Prim.Native.Nat.{ℕ, zero, suc, ◌^◌, ◌<◌}
use lib.Bits.{or_lt}
use native.Mathlib.Nat.{not-suc-le-zero, le_of_suc-le-suc, eq-or-lt_of_le}
use native.Mathlib.Omega.{arith}
use lib.ListN.{get_or}
use Rattle.bits.specs.Bit.{word_bits, bit, any}
use Rattle.bits.proofs.Yes.{not-both, and_left, and_right, and_both, or_cases, or_left, or_right, not_yes, same-yes}
use Rattle.bits.proofs.Words.{any_at, any_found}
use Rattle.cycle.specs.Size.{string_count, jet_count, manifold_count}
use Rattle.cycle.specs.Map.{masks_of, mapped, InMask, FitMap}
use Rattle.cycle.specs.Map as words
use Rattle.cycle.specs.Proper.{Disjoint}
use Rattle.cycle.specs.declared.map.Masks.{Masks}
use Rattle.cycle.proofs.Maps.{in-word, refused-exactly}
use Rattle.plain.specs.Map.{place_in, in_one, in_two, string_refused, refused}
use Rattle.std.specs.Prelude.{Some, None}

-- ---- places

module _ (masks : List ℕ) (j : ℕ) where
  -- in none of the lowest n masks
  pub nowhere : (n : ℕ) → ((i : ℕ) → i < n → InMask masks i j → ⊥) → place_in n masks j ≡ None
  unfolding place_in
  nowhere zero none = refl
  nowhere (suc n) none =
      rw (not_yes (bit j (get_or masks n 0)) (none n (omega arith))) (nowhere n (λ i l. none i (omega arith)))

  -- in mask i and in no other
  pub on : (n i : ℕ) → i < n → InMask masks i j → ((k : ℕ) → k < n → InMask masks k j → i ≡ k) → place_in n masks j ≡ Some i
  unfolding place_in
  on zero i l stands alone = absurd (not-suc-le-zero l)
  on (suc n) i l stands alone = by (λ b. on n i b stands (λ k m. alone k (omega arith))) (bit j (get_or masks n 0)) refl
    where
      by : (i < n → place_in n masks j ≡ Some i) → (b : Bool) → bit j (get_or masks n 0) ≡ b → cond b (Some n) (place_in n masks j) ≡ Some i
      by lower true e = ap Some (sym (alone n (omega arith) e))
      by lower false e =
          ⊎_elim (λ (q : i ≡ n). not-both (bit j (get_or masks n 0)) (ap (λ (k : ℕ). bit j (get_or masks k 0)) (sym q) ∙ stands) e)
          lower
          (eq-or-lt_of_le (le_of_suc-le-suc l))

-- over disjoint masks
module _ (m : ℕ) (masks : List ℕ) (d : Disjoint m masks) (j : ℕ) where
  pub place-on : (i : ℕ) → i < m → InMask masks i j → place_in m masks j ≡ Some i
  place-on i l stands = on masks j m i l stands (λ k b other. d.apart i k j l b stands other)

-- the mapped jets of masks that are words are a word
pub mapped-lt : (n : ℕ) (masks : List ℕ) → ((i : ℕ) → i < n → get_or masks i 0 < 2 ^ word_bits) → mapped n masks < 2 ^ word_bits
unfolding mapped
mapped-lt zero masks fits = omega arith
mapped-lt (suc n) masks fits = or_lt word_bits (mapped n masks) (get_or masks n 0) (mapped-lt n masks (λ i l. fits i (omega arith))) (fits n
    (omega arith))

-- ---- refused

module _ (masks : List ℕ) (j : ℕ) where
  one_found : (n : ℕ) → in_one n masks j ≡ true → (i : ℕ) × (i < n) × InMask masks i j
  unfolding in_one
  one_found zero e = not-both false e refl
  one_found (suc n) e =
      ⊎_elim (λ q. let x = one_found n q in (x.0, omega (arith, x.1), x.2)) (λ q. (n, omega arith, q))
      (or_cases (in_one n masks j) (bit j (get_or masks n 0)) e)

  one_at : (n i : ℕ) → i < n → InMask masks i j → in_one n masks j ≡ true
  unfolding in_one
  one_at zero i l stands = absurd (not-suc-le-zero l)
  one_at (suc n) i l stands =
      ⊎_elim
      (λ (q : i ≡ n). or_right (in_one n masks j) (bit j (get_or masks n 0)) (ap (λ (k : ℕ). bit j (get_or masks k 0)) (sym q) ∙ stands))
      (λ (b : i < n). or_left (in_one n masks j) (bit j (get_or masks n 0)) (one_at n i b stands))
      (eq-or-lt_of_le (le_of_suc-le-suc l))

  two-found : (n : ℕ) → in_two n masks j ≡ true
      → (i : ℕ) × (k : ℕ) × (i < k) × (k < n) × InMask masks i j × InMask masks k j
  unfolding in_two
  two-found zero e = not-both false e refl
  two-found (suc n) e =
      ⊎_elim
      (λ q. let x = two-found n q in (x.0, x.1, x.2, omega (arith, x.3), x.4, x.5))
      (λ q.
      let x = one_found n (and_left (in_one n masks j) (bit j (get_or masks n 0)) q) in
      (x.0, n, x.1, omega arith, x.2, and_right (in_one n masks j) (bit j (get_or masks n 0)) q))
      (or_cases (in_two n masks j) (in_one n masks j && bit j (get_or masks n 0)) e)

  two_at : (n i k : ℕ) → i < k → k < n → InMask masks i j → InMask masks k j → in_two n masks j ≡ true
  unfolding in_two
  two_at zero i k a l p q = absurd (not-suc-le-zero l)
  two_at (suc n) i k a l p q =
      ⊎_elim
      (λ (e : k ≡ n).
      or_right (in_two n masks j) (in_one n masks j && bit j (get_or masks n 0))
      (and_both (in_one n masks j) (bit j (get_or masks n 0)) (one_at n i (omega arith) p)
      (ap (λ (h : ℕ). bit j (get_or masks h 0)) (sym e) ∙ q)))
      (λ (b : k < n). or_left (in_two n masks j) (in_one n masks j && bit j (get_or masks n 0)) (two_at n i k a b p q))
      (eq-or-lt_of_le (le_of_suc-le-suc l))

pub refused-same : (masks : List Masks) → FitMap masks → refused string_count masks ≡ words.refused string_count masks
unfolding refused string_refused
refused-same masks fit = same-yes (refused string_count masks) (words.refused string_count masks) to back
  where
    string : ℕ → Bool
    string s = any jet_count (in_two manifold_count (masks_of masks s))

    to : any string_count string ≡ true → words.refused string_count masks ≡ true
    to e =
        let x = any_found string_count string e in
        let y = any_found jet_count (in_two manifold_count (masks_of masks x.0)) x.2 in
        let z = two-found (masks_of masks x.0) y.0 manifold_count y.2 in
        (refused-exactly masks fit).1
        (record {
          string = x.0;
          one = z.0;
          other = z.1;
          jet = y.0;
          in_hall = x.1;
          apart = z.2;
          in_string = z.3;
          in_one = z.4;
          in_other = z.5;
        })

    back : words.refused string_count masks ≡ true → any string_count string ≡ true
    back e =
        let w = (refused-exactly masks fit).0 e in
        let inside : w.jet < jet_count =
        in-word manifold_count (masks_of masks w.string) (λ i l. fit w.string i w.in_hall l) w.other w.jet w.in_string
        w.in_other in
        any_at string_count string w.string w.in_hall
        (any_at jet_count (in_two manifold_count (masks_of masks w.string)) w.jet inside
        (two_at (masks_of masks w.string) w.jet manifold_count w.one w.other w.apart w.in_string w.in_one w.in_other))
