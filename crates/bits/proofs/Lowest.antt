-- A walk over the set bits of a word: the bit above its trailing zeros is set, and flipped, or cleared by the number below the word, it
-- leaves the word without it. Assumes nothing.
use mathlib.Core.Path.{◌≡◌, refl, sym, ap, ap₂, ◌∙◌}
use mathlib.Core.Bool.{Bool, true, false, not, ◌&&◌, ◌||◌}
use mathlib.Core.Logic.{⊎_elim}
use Prim.Native.Nat.{ℕ, zero, suc, ◌+◌, ◌-◌, ◌*◌, ◌/◌, ◌%◌, ◌^◌, ◌<◌, suc-le-suc}
use native.Mathlib.Nat.{zero-lt-suc, mod-lt, pow-suc}
use native.Mathlib.Omega.{arith}
use lib.Bits.{bit_and, bit_xor, xor_add_and}
use lib.Count.{count_trailing_zeros, under}
use lib.Dec.{eqb, eqb-suc-suc, eqb-suc-zero}
use lib.Pow.{pow_pos}
use borrow.Author.Tests.{eqb-true}
use Rattle.bits.specs.Bit.{bit, without, meets}
use Rattle.bits.proofs.Yes.{and-false, and-true, and_left, and_both, or_left, or_right, or_cases, same-yes}
use Rattle.bits.proofs.Bits.{bit-low, bit-suc, bit-and, bit-one, bit-without, bits-same}
use Rattle.bits.proofs.Words.{meets-found, meets_at}

-- bit n of the k bits of w is set
abbrev SetBelow : ℕ → ℕ → ℕ → Type 0
SetBelow k n w = (n < k) × (bit n w ≡ true)

-- the bit above a word's trailing zeros is set; that no lower one is, no proof needs
pub lowest_set : (k w : ℕ) → 0 < w → w < 2 ^ k → SetBelow k (count_trailing_zeros k w) w
unfolding count_trailing_zeros
lowest_set zero w p h = absurd (omega arith)
lowest_set (suc k) w p h = by (w % 2) refl (λ e. lowest_set k (w / 2) (omega (arith, e)) (halved e))
  where
    halved : w % 2 ≡ 0 → w / 2 < 2 ^ k
    halved e = let l : w < 2 ^ k * 2 = rw pow-suc at h in omega arith

    by : (r : ℕ) → w % 2 ≡ r → (w % 2 ≡ 0 → SetBelow k (count_trailing_zeros k (w / 2)) (w / 2))
        → SetBelow (suc k) (under r (count_trailing_zeros k (w / 2))) w
    by zero e above = (suc-le-suc (above e).0, bit-suc (count_trailing_zeros k (w / 2)) w ∙ (above e).1)
    by (suc zero) e above = (zero-lt-suc k, bit-low w ∙ ap (λ (r : ℕ). eqb r 1) e)
    by (suc (suc r)) e above = absurd (omega (arith, e, mod-lt w (zero-lt-suc 1)))

-- of a set bit and the word, the bit is left
only-bit : (n w : ℕ) → bit n w ≡ true → bit_and w (2 ^ n) ≡ 2 ^ n
only-bit n w e =
    bits-same (bit_and w (2 ^ n)) (2 ^ n)
    (λ j. bit-and j w (2 ^ n) ∙ ap (λ (b : Bool). bit j w && b) (bit-one j n) ∙ at j (eqb j n) refl ∙ sym (bit-one j n))
  where
    at : (j : ℕ) (b : Bool) → eqb j n ≡ b → (bit j w && eqb j n) ≡ eqb j n
    at j true q = let same : j ≡ n = eqb-true j n q in rw (q, same, e)
    at j false q = rw q (and-false (bit j w))

-- flipping a set bit leaves the word without it
flipped : (n w : ℕ) → bit n w ≡ true → bit_xor w (2 ^ n) ≡ without w (2 ^ n)
unfolding without
flipped n w e = ap (bit_xor w) (sym (only-bit n w e))

pub bit-flipped : (j n w : ℕ) → bit n w ≡ true → bit j (bit_xor w (2 ^ n)) ≡ (bit j w && not (eqb j n))
bit-flipped j n w e =
    ap (bit j) (flipped n w e) ∙ bit-without j w (2 ^ n) ∙ ap (λ (b : Bool). bit j w && not b) (bit-one j n)

pub flipped-less : (n w : ℕ) → bit n w ≡ true → bit_xor w (2 ^ n) < w
flipped-less n w e =
    let sum : bit_xor w (2 ^ n) + 2 ^ n * 2 ≡ w + 2 ^ n =
    ap (λ (x : ℕ). bit_xor w (2 ^ n) + x * 2) (sym (only-bit n w e)) ∙ xor_add_and w (2 ^ n) in
    omega (arith, sum, pow_pos n)

-- ---- a word and the number below it: all bits but the lowest set one

twice : (a : Bool) → (a && a) ≡ a
twice true = refl
twice false = refl

pub bit-cleared : (k w : ℕ) → 0 < w → w < 2 ^ k → (j : ℕ) → bit j (bit_and w (w - 1)) ≡ (bit j w && not (eqb j (count_trailing_zeros k w)))
unfolding count_trailing_zeros
bit-cleared zero w p h j = absurd (omega arith)
bit-cleared (suc k) w p h j =
    bit-and j w (w - 1)
    ∙ by (w % 2) refl (λ e i. sym (bit-and i (w / 2) (w / 2 - 1)) ∙ bit-cleared k (w / 2) (omega (arith, e)) (halved e) i) j
  where
    halved : w % 2 ≡ 0 → w / 2 < 2 ^ k
    halved e = let l : w < 2 ^ k * 2 = rw pow-suc at h in omega arith

    by : (r : ℕ) → w % 2 ≡ r
        → (w % 2 ≡ 0 → (i : ℕ) → (bit i (w / 2) && bit i (w / 2 - 1)) ≡ (bit i (w / 2) && not (eqb i (count_trailing_zeros k (w / 2)))))
        → (j : ℕ) → (bit j w && bit j (w - 1)) ≡ (bit j w && not (eqb j (under r (count_trailing_zeros k (w / 2)))))
    by zero e above zero = let low : bit 0 w ≡ false = bit-low w ∙ ap (λ (r : ℕ). eqb r 1) e in rw low
    by zero e above (suc i) =
        let less : (w - 1) / 2 ≡ w / 2 - 1 = omega (arith, e, p) in
        ap₂ (λ (x y : Bool). x && y) (bit-suc i w) (bit-suc i (w - 1) ∙ ap (bit i) less)
        ∙ above e i
        ∙ ap₂ (λ (x y : Bool). x && not y) (sym (bit-suc i w)) (sym (eqb-suc-suc i (count_trailing_zeros k (w / 2))))
    by (suc zero) e above zero =
        let even : (w - 1) % 2 ≡ 0 = omega (arith, e, p) in
        let low : bit 0 (w - 1) ≡ false = bit-low (w - 1) ∙ ap (λ (r : ℕ). eqb r 1) even in
        ap (λ (b : Bool). bit 0 w && b) low
    by (suc zero) e above (suc i) =
        let half : (w - 1) / 2 ≡ w / 2 = omega (arith, e, p) in
        ap (λ (b : Bool). bit (suc i) w && b) (bit-suc i (w - 1) ∙ ap (bit i) half ∙ sym (bit-suc i w))
        ∙ twice (bit (suc i) w)
        ∙ sym (and-true (bit (suc i) w))
        ∙ ap (λ (b : Bool). bit (suc i) w && not b) (sym (eqb-suc-zero i))
    by (suc (suc r)) e above j = absurd (omega (arith, e, mod-lt w (zero-lt-suc 1)))

-- a word shares a bit with another where the lowest is the other's, or one of the rest is shared
pub meets-by-lowest : (k w m : ℕ) → 0 < w → w < 2 ^ k → meets w m ≡ (bit (count_trailing_zeros k w) m || meets (bit_and w (w - 1)) m)
meets-by-lowest k w m p h = same-yes (meets w m) (bit n m || meets rest m) there back
  where
    n : ℕ
    n = count_trailing_zeros k w

    rest : ℕ
    rest = bit_and w (w - 1)

    left : (j : ℕ) → bit j rest ≡ (bit j w && not (eqb j n))
    left j = bit-cleared k w p h j

    there : meets w m ≡ true → (bit n m || meets rest m) ≡ true
    there e = let x = meets-found w m e in by x.0 x.1 x.2 (eqb x.0 n) refl
      where
        by : (j : ℕ) → bit j w ≡ true → bit j m ≡ true → (b : Bool) → eqb j n ≡ b → (bit n m || meets rest m) ≡ true
        by j a c true q = or_left (bit n m) (meets rest m) (ap (λ (i : ℕ). bit i m) (sym (eqb-true j n q)) ∙ c)
        by j a c false q =
            or_right (bit n m) (meets rest m)
            (meets_at rest m j (left j ∙ and_both (bit j w) (not (eqb j n)) a (ap not q)) c)

    back : (bit n m || meets rest m) ≡ true → meets w m ≡ true
    back e =
        ⊎_elim (λ (a : bit n m ≡ true). meets_at w m n (lowest_set k w p h).1 a)
        (λ (b : meets rest m ≡ true).
        let x = meets-found rest m b in
        meets_at w m x.0 (and_left (bit x.0 w) (not (eqb x.0 n)) (sym (left x.0) ∙ x.1)) x.2)
        (or_cases (bit n m) (meets rest m) e)
