-- What a closure that its calls leave as it was says, called at each place: whether any passes. Assumes nothing.
use Rattle.std.proofs.Common.{◌≡◌, ℕ, ◌<◌, List, length, get_or, sym, refl, ap, ◌∙◌, arith}
use denote.Param.Members.{Mut, Called}
use Rattle.std.specs.Prelude.{Bool, true, false}
use Rattle.std.specs.Bool.{MatchBool}
use Rattle.std.specs.Iterator.{ChecksAny}
use Rattle.std.specs.List.{range_with_len, HoldsAt, AllWithin}
use Rattle.std.specs.declared.ops.Range.{Range}
use Rattle.std.proofs.iter.Yields.{nat_range_steps}
use Rattle.std.proofs.lemmas.Iterator.{cases_from_any, YieldsList-from_range}
use Rattle.std.proofs.lemmas.List.FromFn.{length-range_with_len, get_or-range_with_len}
use Rattle.bits.specs.Bit.{any}
use Rattle.bits.proofs.Words.{any_at, any_none}

-- whether any of the numbers below n passes
module _ {F : Type 0} (g : Mut F (ℕ × Unit {0}) Bool) (rule : ℕ → Bool) (n : ℕ) (f : F)
    (call : (i : ℕ) (y : Bool) (q : F) → Called g f (i, tt) y q → (y ≡ rule i) × (q ≡ f)) where
  pub any-called : (r : Bool) (last : Range ℕ) → ChecksAny nat_range_steps g (record { start = 0; end = n }) f r last → r ≡ any n rule
  any-called r last ran =
      by r
      (cases_from_any last f r (λ i. rule i ≡ true) (λ i. rule i ≡ false) ran (YieldsList-from_range 0 n n refl (omega arith))
      (λ i q k. sym (call i true q k).0) (λ i q k. ((call i false q k).1, sym (call i false q k).0)))
    where
      all : List ℕ
      all = range_with_len 0 n

      stands : (k : ℕ) → k < n → get_or all k 0 ≡ k
      stands k below = omega (arith, get_or-range_with_len 0 n k 0 below)

      by : (b : Bool) → MatchBool b ((k : ℕ) × (k < length all) × HoldsAt (λ i. rule i ≡ true) all k) (AllWithin (λ i. rule i ≡ false) all 0 (length all))
          → b ≡ any n rule
      by true found =
          let below : found.0 < n = omega (arith, found.1, length-range_with_len 0 n) in
          sym (any_at n rule found.0 below (ap rule (sym (stands found.0 below)) ∙ found.2 0))
      by false none =
          sym (any_none n rule
          (λ k below. ap rule (sym (stands k below)) ∙ none k 0 (omega arith) (omega (arith, length-range_with_len 0 n))))
