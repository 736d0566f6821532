-- The bits of a word, each law once for all positions: of and, or, and-not, zero and a single bit; past the width there is none; two words
-- of the same bits are the same. Assumes nothing.
use mathlib.Core.Path.{◌≡◌, refl, sym, ap, ◌∙◌}
use mathlib.Core.Bool.{Bool, true, false, not, ◌&&◌, ◌||◌}
use Prim.Native.Nat.{ℕ, zero, suc, ◌+◌, ◌-◌, ◌*◌, ◌/◌, ◌%◌, ◌^◌, ◌≤◌, ◌<◌, suc-le-suc}
use native.Mathlib.Nat.{mod-lt, zero-lt-suc, not-suc-le-zero, le_of_suc-le-suc, pow-suc, div-one, zero-div, lt_of_le_of_lt}
use native.Mathlib.Numerals.{one-add}
use native.Mathlib.Omega.{arith}
use lib.Dec.{eqb, eqb-zero-suc, eqb-suc-zero, eqb-suc-suc}
use lib.Arith.{lt-one}
use lib.Pow.{shr-shr, pow_pos, pow-lt, pow_mono, field, mod-mod-pow}
use lib.Bits.{bit_and, bit_or, bit_xor, and_shr, and_mod, or_shr, or_mod, xor_shr, xor_mod, and_le_l, xor_lt}
use Rattle.bits.specs.Bit.{bit, without}
use Rattle.bits.proofs.Yes.{not-both}

-- ---- single binary digits

two : 0 < 2
two = zero-lt-suc 1

below : {n : ℕ} → suc (suc n) < 2 → ⊥
below h = not-suc-le-zero (le_of_suc-le-suc (le_of_suc-le-suc h))

-- a rule for two binary digits is shown at its four cases
digits : (P : ℕ → ℕ → Type 0) → P 0 0 → P 0 1 → P 1 0 → P 1 1 → (x y : ℕ) → x < 2 → y < 2 → P x y
digits P a b c d zero zero hx hy = a
digits P a b c d zero (suc zero) hx hy = b
digits P a b c d zero (suc (suc y)) hx hy = absurd (below hy)
digits P a b c d (suc zero) zero hx hy = c
digits P a b c d (suc zero) (suc zero) hx hy = d
digits P a b c d (suc zero) (suc (suc y)) hx hy = absurd (below hy)
digits P a b c d (suc (suc x)) y hx hy = absurd (below hx)

digit_at : (P : ℕ → ℕ → Type 0) → P 0 0 → P 0 1 → P 1 0 → P 1 1 → (j a b : ℕ) → P (a / 2 ^ j % 2) (b / 2 ^ j % 2)
digit_at P p q r s j a b = digits P p q r s (a / 2 ^ j % 2) (b / 2 ^ j % 2) (mod-lt (a / 2 ^ j) two) (mod-lt (b / 2 ^ j) two)

-- ---- and, or, and-not

pub bit-and : (j a b : ℕ) → bit j (bit_and a b) ≡ (bit j a && bit j b)
unfolding bit
bit-and j a b =
    ap (λ (n : ℕ). eqb (n % 2) 1) (and_shr a b j)
    ∙ ap (λ (n : ℕ). eqb n 1) (and_mod (a / 2 ^ j) (b / 2 ^ j) 1)
    ∙ digit_at (λ x y. eqb (bit_and x y) 1 ≡ (eqb x 1 && eqb y 1)) refl refl refl refl j a b

pub bit-or : (j a b : ℕ) → bit j (bit_or a b) ≡ (bit j a || bit j b)
unfolding bit
bit-or j a b =
    ap (λ (n : ℕ). eqb (n % 2) 1) (or_shr a b j)
    ∙ ap (λ (n : ℕ). eqb n 1) (or_mod (a / 2 ^ j) (b / 2 ^ j) 1)
    ∙ digit_at (λ x y. eqb (bit_or x y) 1 ≡ (eqb x 1 || eqb y 1)) refl refl refl refl j a b

pub bit-without : (j a b : ℕ) → bit j (without a b) ≡ (bit j a && not (bit j b))
unfolding bit without
bit-without j a b =
    ap (λ (n : ℕ). eqb (n % 2) 1) (xor_shr a (bit_and a b) j ∙ ap (bit_xor (a / 2 ^ j)) (and_shr a b j))
    ∙ ap (λ (n : ℕ). eqb n 1)
    (xor_mod (a / 2 ^ j) (bit_and (a / 2 ^ j) (b / 2 ^ j)) 1 ∙ ap (bit_xor (a / 2 ^ j % 2)) (and_mod (a / 2 ^ j) (b / 2 ^ j) 1))
    ∙ digit_at (λ x y. eqb (bit_xor x (bit_and x y)) 1 ≡ (eqb x 1 && not (eqb y 1))) refl refl refl refl j a b

-- ---- the lowest bit, and the bits above it

pub bit-low : (a : ℕ) → bit 0 a ≡ eqb (a % 2) 1
unfolding bit
bit-low a = ap (λ (n : ℕ). eqb (n % 2) 1) (div-one a)

pub bit-suc : (j a : ℕ) → bit (suc j) a ≡ bit j (a / 2)
unfolding bit
bit-suc j a = ap (λ (n : ℕ). eqb (a / 2 ^ n % 2) 1) (sym (one-add j)) ∙ ap (λ (n : ℕ). eqb (n % 2) 1) (sym (shr-shr a 1 j))

pub bit-none : (j : ℕ) → bit j 0 ≡ false
unfolding bit
bit-none j = ap (λ (n : ℕ). eqb (n % 2) 1) (zero-div (2 ^ j))

half : {a : ℕ} (k : ℕ) → a < 2 ^ suc k → a / 2 < 2 ^ k
half {a} k h = let e : a < 2 ^ k * 2 = rw pow-suc at h in omega arith

-- a word of k bits has none from the k-th on
pub bit_past : (k j a : ℕ) → a < 2 ^ k → k ≤ j → bit j a ≡ false
bit_past zero j a h l = ap (bit j) (lt-one h) ∙ bit-none j
bit_past (suc k) zero a h l = absurd (not-suc-le-zero l)
bit_past (suc k) (suc j) a h l = bit-suc j a ∙ bit_past k j (a / 2) (half k h) (le_of_suc-le-suc l)

-- 2 ^ n has bit n and no other
-- the lowest bits of a number are those of its remainder
pub bit-mod : (k j a : ℕ) → j < k → bit j (a % 2 ^ k) ≡ bit j a
unfolding bit
bit-mod k j a l =
    let i : ℕ = k - j - 1 in
    let e : k ≡ (i + 1) + j = omega arith in
    ap (λ (x : ℕ). eqb x 1)
    (ap (λ (m : ℕ). a % 2 ^ m / 2 ^ j % 2) e ∙ ap (λ (x : ℕ). x % 2) (field a (i + 1) j) ∙ mod-mod-pow (a / 2 ^ j) i 1)

pub bit-one : (j n : ℕ) → bit j (2 ^ n) ≡ eqb j n
bit-one zero zero = bit-low 1
bit-one zero (suc n) =
    let e : 2 ^ suc n ≡ 2 ^ n * 2 = pow-suc 2 n in
    let even : 2 ^ suc n % 2 ≡ 0 = omega arith in
    bit-low (2 ^ suc n) ∙ ap (λ (x : ℕ). eqb x 1) even ∙ sym (eqb-zero-suc n)
bit-one (suc j) zero = bit-suc j 1 ∙ bit-none j ∙ sym (eqb-suc-zero j)
bit-one (suc j) (suc n) =
    let e : 2 ^ suc n ≡ 2 ^ n * 2 = pow-suc 2 n in
    let halved : 2 ^ suc n / 2 ≡ 2 ^ n = omega arith in
    bit-suc j (2 ^ suc n) ∙ ap (bit j) halved ∙ bit-one j n ∙ sym (eqb-suc-suc j n)

-- ---- two words of k bits with the same bits are the same

pub bit-ext : (k a b : ℕ) → a < 2 ^ k → b < 2 ^ k → ((j : ℕ) → j < k → bit j a ≡ bit j b) → a ≡ b
bit-ext zero a b ha hb e = lt-one ha ∙ sym (lt-one hb)
bit-ext (suc k) a b ha hb e =
    let q : a / 2 ≡ b / 2 =
    bit-ext k (a / 2) (b / 2) (half k ha) (half k hb) (λ j l. sym (bit-suc j a) ∙ e (suc j) (suc-le-suc l) ∙ bit-suc j b) in
    let same : eqb (a % 2) 1 ≡ eqb (b % 2) 1 = sym (bit-low a) ∙ e 0 (zero-lt-suc k) ∙ bit-low b in
    let r : a % 2 ≡ b % 2 =
    digits (λ x y. eqb x 1 ≡ eqb y 1 → x ≡ y) (λ p. refl) (λ p. not-both false p refl) (λ p. not-both true refl p) (λ p. refl)
    (a % 2) (b % 2) (mod-lt a two) (mod-lt b two) same in
    omega arith

-- and so are two words of any width
pub below_power : (n : ℕ) → n < 2 ^ n
below_power zero = omega arith
below_power (suc n) = omega (arith, below_power n, pow-lt {i = n} {j = suc n} (omega arith))

pub bits-same : (a b : ℕ) → ((j : ℕ) → bit j a ≡ bit j b) → a ≡ b
bits-same a b same =
    let more : 2 ^ a ≤ 2 ^ (a + b) = pow_mono (omega arith) in
    let also : 2 ^ b ≤ 2 ^ (a + b) = pow_mono (omega arith) in
    bit-ext (a + b) a b (omega (arith, below_power a)) (omega (arith, below_power b)) (λ j l. same j)

-- ---- `a & !b` is what `without` says

-- n and a fill up the k low bits
fill : (k j n a : ℕ) → n + a + 1 ≡ 2 ^ k → j < k → bit j n ≡ not (bit j a)
fill zero j n a e l = absurd (not-suc-le-zero l)
fill (suc k) zero n a e l =
    let f : n + a + 1 ≡ 2 ^ k * 2 = rw pow-suc at e in
    let g : n % 2 + a % 2 ≡ 1 = omega arith in
    bit-low n
    ∙ digits (λ x y. x + y ≡ 1 → eqb x 1 ≡ not (eqb y 1)) (λ p. absurd (omega arith)) (λ p. refl) (λ p. refl) (λ p. absurd (omega arith))
    (n % 2) (a % 2) (mod-lt n two) (mod-lt a two) g
    ∙ ap not (sym (bit-low a))
fill (suc k) (suc j) n a e l =
    let f : n + a + 1 ≡ 2 ^ k * 2 = rw pow-suc at e in
    let g : n / 2 + a / 2 + 1 ≡ 2 ^ k = omega arith in
    bit-suc j n ∙ fill k j (n / 2) (a / 2) g (le_of_suc-le-suc l) ∙ ap not (sym (bit-suc j a))

-- all k low bits of 2 ^ k - 1 are set
pub bit-ones : (k j : ℕ) → j < k → bit j (2 ^ k - 1) ≡ true
bit-ones k j l = fill k j (2 ^ k - 1) 0 (omega (arith, pow_pos k)) l ∙ ap not (bit-none j)

pub and-not-is-without : (a b : ℕ) → a < 2 ^ 32 → b < 2 ^ 32 → bit_and a ((2 ^ 32 - 1) - b) ≡ without a b
unfolding without
and-not-is-without a b ha hb =
    bit-ext 32 (bit_and a ((2 ^ 32 - 1) - b)) (without a b) (lt_of_le_of_lt (and_le_l a ((2 ^ 32 - 1) - b)) ha)
    (xor_lt 32 a (bit_and a b) ha (lt_of_le_of_lt (and_le_l a b) ha))
    (λ j l. bit-and j a ((2 ^ 32 - 1) - b)
    ∙ ap (λ (t : Bool). bit j a && t) (fill 32 j ((2 ^ 32 - 1) - b) b (omega arith) l)
    ∙ sym (bit-without j a b))
