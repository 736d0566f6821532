-- Words put together from their bits, and words that have some bit: each law once for all positions. Assumes nothing.
use mathlib.Core.Path.{◌≡◌, refl, sym, ap, ap₂, ◌∙◌}
use mathlib.Core.Bool.{Bool, true, false, not, ◌&&◌, ◌||◌}
use mathlib.Core.Logic.{⊎_elim}
use Prim.Native.Nat.{ℕ, zero, suc, ◌^◌, ◌<◌}
use native.Mathlib.Nat.{not-suc-le-zero, le_of_suc-le-suc, lt_of_le_of_lt, lt_trans, le_refl, le_of_eq, eq-or-lt_of_le}
use native.Mathlib.Decide.{dec_lt}
use native.Mathlib.Omega.{arith}
use lib.Dec.{eqb}
use lib.Pow.{pow_pos, pow-lt}
use lib.Bits.{bit_and, bit_or, or_lt, and_le_l}
use borrow.Author.Tests.{eq-eqb, ne_eqb, lt-ltb}
use Rattle.bits.specs.Bit.{word_bits, bit, meets, plus_bit, with_bit, pack, any}
use Rattle.bits.proofs.Yes.{not-both, and_left, and_right, and_both, and-true, and-false, or-false, or_cases, or_left, or_right}
use Rattle.bits.proofs.Yes.{same-yes}
use Rattle.bits.proofs.Bits.{bit-and, bit-or, bit-none, bit_past, bit-one, bit-ext, below_power}

-- ---- one bit more

pub bit-plus : (j w n : ℕ) (b : Bool) → bit j (plus_bit w n b) ≡ (bit j w || (eqb j n && b))
bit-plus j w n true = bit-or j w (2 ^ n) ∙ ap (λ (t : Bool). bit j w || t) (bit-one j n ∙ sym (and-true (eqb j n)))
bit-plus j w n false = sym (ap (λ (t : Bool). bit j w || t) (and-false (eqb j n)) ∙ or-false (bit j w))

plus-lt : (w n : ℕ) (b : Bool) → w < 2 ^ n → plus_bit w n b < 2 ^ suc n
plus-lt w n true h = or_lt (suc n) w (2 ^ n) (lt_trans h (pow-lt (le_refl (suc n)))) (pow-lt (le_refl (suc n)))
plus-lt w n false h = lt_trans h (pow-lt (le_refl (suc n)))

-- within a word the code's `with_bit` is it
pub with-is-plus : (w j : ℕ) (b : Bool) → j < word_bits → with_bit w j b ≡ plus_bit w j b
unfolding with_bit
with-is-plus w j b h = ap (λ (t : Bool). plus_bit w j (t && b)) (lt-ltb j word_bits h)

-- ---- packing

pub pack-lt : (n : ℕ) (f : ℕ → Bool) → pack n f < 2 ^ n
unfolding pack
pack-lt zero f = pow_pos 0
pack-lt (suc n) f = plus-lt (pack n f) n (f n) (pack-lt n f)

pub pack-at : (n : ℕ) (f : ℕ → Bool) (j : ℕ) → j < n → bit j (pack n f) ≡ f j
unfolding pack
pack-at zero f j l = absurd (not-suc-le-zero l)
pack-at (suc n) f j l =
    bit-plus j (pack n f) n (f n)
    ∙ ⊎_elim
    (λ (e : j ≡ n).
    ap₂ (λ (x y : Bool). x || (y && f n)) (bit_past n j (pack n f) (pack-lt n f) (le_of_eq (sym e))) (eq-eqb j n e) ∙ ap f (sym e))
    (λ (h : j < n).
    ap₂ (λ (x y : Bool). x || (y && f n)) (pack-at n f j h) (ne_eqb j n (λ e. omega arith)) ∙ or-false (f j))
    (eq-or-lt_of_le (le_of_suc-le-suc l))

-- a word is what its bits make
pub pack-bits : (n w : ℕ) → w < 2 ^ n → pack n (λ j. bit j w) ≡ w
pack-bits n w h = bit-ext n (pack n (λ j. bit j w)) w (pack-lt n (λ j. bit j w)) h (λ j l. pack-at n (λ i. bit i w) j l)

-- ---- some bit is set

pub any_at : (n : ℕ) (f : ℕ → Bool) (j : ℕ) → j < n → f j ≡ true → any n f ≡ true
unfolding any
any_at zero f j l e = absurd (not-suc-le-zero l)
any_at (suc n) f j l e =
    ⊎_elim (λ (q : j ≡ n). or_right (any n f) (f n) (ap f (sym q) ∙ e)) (λ (h : j < n). or_left (any n f) (f n) (any_at n f j h e))
    (eq-or-lt_of_le (le_of_suc-le-suc l))

pub any_found : (n : ℕ) (f : ℕ → Bool) → any n f ≡ true → (j : ℕ) × (j < n) × (f j ≡ true)
unfolding any
any_found zero f e = not-both false e refl
any_found (suc n) f e =
    ⊎_elim
    (λ (h : any n f ≡ true). let x = any_found n f h in (x.0, omega (arith, x.1), x.2))
    (λ (h : f n ≡ true). (n, omega arith, h))
    (or_cases (any n f) (f n) e)

-- two tests that agree below n agree on 'some'
pub any_same : (n : ℕ) (f g : ℕ → Bool) → ((j : ℕ) → j < n → f j ≡ g j) → any n f ≡ any n g
any_same n f g e =
    same-yes (any n f) (any n g)
    (λ p. let x = any_found n f p in any_at n g x.0 x.1 (sym (e x.0 x.1) ∙ x.2))
    (λ p. let x = any_found n g p in any_at n f x.0 x.1 (e x.0 x.1 ∙ x.2))

pub any_none : (n : ℕ) (f : ℕ → Bool) → ((j : ℕ) → j < n → f j ≡ false) → any n f ≡ false
unfolding any
any_none zero f e = refl
any_none (suc n) f e = ap₂ (λ (x y : Bool). x || y) (any_none n f (λ j l. e j (omega arith))) (e n (omega arith))

-- a word of n bits is not 0 exactly where some bit is set
pub some-bit : (n w : ℕ) → w < 2 ^ n → not (eqb w 0) ≡ any n (λ j. bit j w)
some-bit n w h = decided (any n (λ j. bit j w)) refl
  where
    quiet : any n (λ j. bit j w) ≡ false → (j : ℕ) → j < n → bit j w ≡ bit j 0
    quiet e j l = found (bit j w) refl
      where
        found : (b : Bool) → bit j w ≡ b → bit j w ≡ bit j 0
        found true q = not-both (any n (λ i. bit i w)) (any_at n (λ i. bit i w) j l q) e
        found false q = q ∙ sym (bit-none j)

    decided : (t : Bool) → any n (λ j. bit j w) ≡ t → not (eqb w 0) ≡ any n (λ j. bit j w)
    decided true e =
        ap not
        (ne_eqb w 0 (λ z.
        let q : any n (λ j. bit j w) ≡ false = ap (λ (x : ℕ). any n (λ j. bit j x)) z ∙ any_none n (λ j. bit j 0) (λ j l. bit-none j) in
        not-both (any n (λ j. bit j w)) e q))
        ∙ sym e
    decided false e = ap not (eq-eqb w 0 (bit-ext n w 0 h (pow_pos n) (quiet e))) ∙ sym e

-- two words share a bit exactly where both have it
pub meets-is : (n a b : ℕ) → a < 2 ^ n → meets a b ≡ any n (λ j. bit j a && bit j b)
unfolding meets
meets-is n a b h =
    some-bit n (bit_and a b) (lt_of_le_of_lt (and_le_l a b) h)
    ∙ any_same n (λ j. bit j (bit_and a b)) (λ j. bit j a && bit j b) (λ j l. bit-and j a b)

-- and so for words of any width
pub meets-found : (a b : ℕ) → meets a b ≡ true → (j : ℕ) × (bit j a ≡ true) × (bit j b ≡ true)
meets-found a b e =
    let x = any_found a (λ j. bit j a && bit j b) (sym (meets-is a a b (below_power a)) ∙ e) in
    (x.0, and_left (bit x.0 a) (bit x.0 b) x.2, and_right (bit x.0 a) (bit x.0 b) x.2)

pub meets_at : (a b j : ℕ) → bit j a ≡ true → bit j b ≡ true → meets a b ≡ true
meets_at a b j p q =
    meets-is a a b (below_power a)
    ∙ any_at a (λ i. bit i a && bit i b) j (by (dec_lt j a)) (and_both (bit j a) (bit j b) p q)
  where
    by : Dec (j < a) → j < a
    by (yes l) = l
    by (no f) = not-both (bit j a) p (bit_past a j a (below_power a) (omega arith))

-- a word joined from two shares a bit with another where one of the two does
pub meets-or : (a b m : ℕ) → meets (bit_or a b) m ≡ (meets a m || meets b m)
meets-or a b m =
    same-yes (meets (bit_or a b) m) (meets a m || meets b m)
    (λ e.
    let x = meets-found (bit_or a b) m e in
    ⊎_elim (λ (p : bit x.0 a ≡ true). or_left (meets a m) (meets b m) (meets_at a m x.0 p x.2))
    (λ (p : bit x.0 b ≡ true). or_right (meets a m) (meets b m) (meets_at b m x.0 p x.2))
    (or_cases (bit x.0 a) (bit x.0 b) (sym (bit-or x.0 a b) ∙ x.1)))
    (λ e.
    ⊎_elim
    (λ (p : meets a m ≡ true).
    let x = meets-found a m p in
    meets_at (bit_or a b) m x.0 (bit-or x.0 a b ∙ or_left (bit x.0 a) (bit x.0 b) x.1) x.2)
    (λ (p : meets b m ≡ true).
    let x = meets-found b m p in
    meets_at (bit_or a b) m x.0 (bit-or x.0 a b ∙ or_right (bit x.0 a) (bit x.0 b) x.1) x.2)
    (or_cases (meets a m) (meets b m) e))

-- packing goes on by `with_bit`
pub pack-next : (n w : ℕ) (f : ℕ → Bool) (b : Bool) → n < word_bits → w ≡ pack n f → b ≡ f n → with_bit w n b ≡ pack (suc n) f
unfolding pack
pack-next n w f b l e q = with-is-plus w n b l ∙ ap₂ (λ (x : ℕ) (y : Bool). plus_bit x n y) e q

-- 'some' of two tests joined
pub any-or : (n : ℕ) (f g : ℕ → Bool) → any n (λ j. f j || g j) ≡ (any n f || any n g)
any-or n f g =
    same-yes (any n (λ j. f j || g j)) (any n f || any n g)
    (λ p.
    let x = any_found n (λ j. f j || g j) p in
    ⊎_elim (λ (a : f x.0 ≡ true). or_left (any n f) (any n g) (any_at n f x.0 x.1 a))
    (λ (b : g x.0 ≡ true). or_right (any n f) (any n g) (any_at n g x.0 x.1 b)) (or_cases (f x.0) (g x.0) x.2))
    (λ p.
    ⊎_elim
    (λ (a : any n f ≡ true). let x = any_found n f a in any_at n (λ j. f j || g j) x.0 x.1 (or_left (f x.0) (g x.0) x.2))
    (λ (b : any n g ≡ true). let x = any_found n g b in any_at n (λ j. f j || g j) x.0 x.1 (or_right (f x.0) (g x.0) x.2))
    (or_cases (any n f) (any n g) p))

-- and of one test in every place
pub any-and : (n : ℕ) (f : ℕ → Bool) (b : Bool) → any n (λ j. f j && b) ≡ (any n f && b)
any-and n f true = any_same n (λ j. f j && true) f (λ j l. and-true (f j)) ∙ sym (and-true (any n f))
any-and n f false = any_none n (λ j. f j && false) (λ j l. and-false (f j)) ∙ sym (and-false (any n f))
