-- The bits of the balance byte: bit m says that module m is out of balance, bit oxidizer_from + m that its oxidizer is the lesser; it is
-- below 256. Assumes nothing.
use Rattle.std.proofs.Common.{◌≡◌, ℕ, zero, suc, ◌+◌, ◌%◌, ◌^◌, ◌<◌, ◌≤◌, Bool, true, false, ◌&&◌, ◌||◌, eqb, List, get_or, refl, ap, ◌∙◌, ⊎_elim, le_of_suc-le-suc, mod-eq_of_lt, eq-or-lt_of_le, arith, eq-eqb, ne_eqb}
use lib.Bits.{or_lt}
use lib.Pow.{pow-lt}
use Rattle.bits.specs.Bit.{bit, plus_bit, with_bit, word_bits}
use Rattle.bits.proofs.Bits.{bit-none}
use Rattle.bits.proofs.Words.{bit-plus, with-is-plus}
use Rattle.bits.proofs.Yes.{or-false}
use Rattle.cycle.specs.Size.{module_count}
use Rattle.cycle.specs.Banks.{no_bank}
use Rattle.cycle.specs.declared.banks.Bank.{Bank}
use Rattle.feed.specs.Size.{oxidizer_from}
use Rattle.feed.specs.Report.{balance_of}

bit-with : (j w n : ℕ) (b : Bool) → n < word_bits → bit j (with_bit w n b) ≡ (bit j w || (eqb j n && b))
bit-with j w n b h = ap (bit j) (with-is-plus w n b h) ∙ bit-plus j w n b

abbrev unbalanced : List Bank → ℕ → Bool
unbalanced banks m = (get_or banks m no_bank).unbalanced

abbrev oxidizer : List Bank → ℕ → Bool
oxidizer banks m = (get_or banks m no_bank).oxidizer

module _ (banks : List Bank) where
  -- one module more
  next_bit : (j m : ℕ) → m < module_count
      → bit j (balance_of (suc m) banks)
      ≡ ((bit j (balance_of m banks) || (eqb j m && unbalanced banks m)) || (eqb j (oxidizer_from + m) && oxidizer banks m))
  unfolding balance_of
  next_bit j m h =
      bit-with j (with_bit (balance_of m banks) m (unbalanced banks m)) (oxidizer_from + m) (oxidizer banks m) (omega arith)
      ∙ ap (λ (t : Bool). t || (eqb j (oxidizer_from + m) && oxidizer banks m))
      (bit-with j (balance_of m banks) m (unbalanced banks m) (omega arith))

  -- which sets no bit but its own two
  next-other : (j m : ℕ) → m < module_count → (j ≡ m → ⊥) → (j ≡ oxidizer_from + m → ⊥)
      → bit j (balance_of (suc m) banks) ≡ bit j (balance_of m banks)
  next-other j m h p q =
      next_bit j m h ∙ rw (ne_eqb j m p, ne_eqb j (oxidizer_from + m) q) (or-false _ ∙ or-false (bit j (balance_of m banks)))

  no-bit : (j n : ℕ) → n ≤ module_count → ((m : ℕ) → m < n → (j ≡ m → ⊥) × (j ≡ oxidizer_from + m → ⊥))
      → bit j (balance_of n banks) ≡ false
  unfolding balance_of
  no-bit j zero h o = bit-none j
  no-bit j (suc n) h o =
      next-other j n (omega arith) (o n (omega arith)).0 (o n (omega arith)).1 ∙ no-bit j n (omega arith) (λ m b. o m (omega arith))

  -- of the lowest n modules
  unbalanced-in : (n m : ℕ) → n ≤ module_count → m < n → bit m (balance_of n banks) ≡ unbalanced banks m
  unbalanced-in zero m h l = absurd (omega arith)
  unbalanced-in (suc n) m h l =
      ⊎_elim
      (λ (e : m ≡ n).
      rw e
      (next_bit n n h
      ∙ rw (
        no-bit n n (omega arith) (λ k b. (λ q. omega arith, λ q. omega arith)),
        eq-eqb n n refl,
        ne_eqb n (oxidizer_from + n) (λ q. omega arith),
      )
      (or-false (unbalanced banks n))))
      (λ (b : m < n). next-other m n h (λ q. omega arith) (λ q. omega arith) ∙ unbalanced-in n m (omega arith) b)
      (eq-or-lt_of_le (le_of_suc-le-suc l))

  oxidizer-in : (n m : ℕ) → n ≤ module_count → m < n → bit (oxidizer_from + m) (balance_of n banks) ≡ oxidizer banks m
  oxidizer-in zero m h l = absurd (omega arith)
  oxidizer-in (suc n) m h l =
      let j = oxidizer_from + n in
      ⊎_elim
      (λ (e : m ≡ n).
      rw e
      (next_bit j n h
      ∙ rw (no-bit j n (omega arith) (λ k b. (λ q. omega arith, λ q. omega arith)), ne_eqb j n (λ q. omega arith), eq-eqb j j refl) refl))
      (λ (b : m < n).
      next-other (oxidizer_from + m) n h (λ q. omega arith) (λ q. omega arith) ∙ oxidizer-in n m (omega arith) b)
      (eq-or-lt_of_le (le_of_suc-le-suc l))

  -- of all
  pub unbalanced-bit : (m : ℕ) → m < module_count → bit m (balance_of module_count banks) ≡ (get_or banks m no_bank).unbalanced
  unbalanced-bit m l = unbalanced-in module_count m (omega arith) l

  pub oxidizer-bit : (m : ℕ) → m < module_count → bit (oxidizer_from + m) (balance_of module_count banks) ≡ (get_or banks m no_bank).oxidizer
  oxidizer-bit m l = oxidizer-in module_count m (omega arith) l

  -- a bit that stands for no module
  pub blank-bit : (j : ℕ) → ((m : ℕ) → m < module_count → (j ≡ m → ⊥) × (j ≡ oxidizer_from + m → ⊥))
      → bit j (balance_of module_count banks) ≡ false
  blank-bit j o = no-bit j module_count (omega arith) o

-- ---- it fits a byte

plus-below : (w n : ℕ) (b : Bool) → w < 2 ^ 8 → n < 8 → plus_bit w n b < 2 ^ 8
plus-below w n true h l = or_lt 8 w (2 ^ n) h (pow-lt l)
plus-below w n false h l = h

with-below : (w n : ℕ) (b : Bool) → w < 2 ^ 8 → n < 8 → with_bit w n b < 2 ^ 8
with-below w n b h l = rw (with-is-plus w n b (omega arith)) (plus-below w n b h l)

below : (n : ℕ) (banks : List Bank) → n ≤ module_count → balance_of n banks < 2 ^ 8
unfolding balance_of
below zero banks h = omega arith
below (suc m) banks h =
    with-below (with_bit (balance_of m banks) m (unbalanced banks m)) (oxidizer_from + m) (oxidizer banks m)
    (with-below (balance_of m banks) m (unbalanced banks m) (below m banks (omega arith)) (omega arith)) (omega arith)

pub balance-below : (banks : List Bank) → balance_of module_count banks < 256
balance-below banks = below module_count banks (omega arith)

pub balance-byte : (banks : List Bank) → balance_of module_count banks % 256 ≡ balance_of module_count banks
balance-byte banks = mod-eq_of_lt (balance-below banks)
