-- The tests of a full record and what documents 01 and 02 say of its bytes: sum, reserved bits, quantities. Assumes nothing.
use Rattle.std.proofs.Common.{◌≡◌, ℕ, ◌+◌, ◌*◌, ◌/◌, ◌%◌, ◌≤◌, Bool, true, leb, ◌⊎◌, List, length, subst, inl, inr, arith, ltb-true, lt-ltb, eq-eqb, eqb-true, le-leb, leb-true}
use native.Mathlib.Decide.{ℕ_discrete}
use Rattle.bits.proofs.Yes.{and_left, and_right, and_both}
use Rattle.bits.proofs.Every.{every-at, every-from}
use Rattle.cycle.specs.Size.{module_count}
use Rattle.feed.specs.Size.{reserved_from, most_quantity, quantities_from, quantities_length, quantity_length}
use Rattle.feed.specs.Bytes.{two}
use Rattle.feed.specs.Format.{sum_right, sum_of, reserved_zero, two_right, quantities_right}
use Rattle.feed.specs.Good.{ReservedZero, SumRight, QuantitiesRight}

module _ (r : List ℕ) where
  pub reserved-to : reserved_zero r ≡ true → ReservedZero r
  unfolding reserved_zero
  reserved-to e = ltb-true _ reserved_from e

  pub reserved-from : ReservedZero r → reserved_zero r ≡ true
  unfolding reserved_zero
  reserved-from z = lt-ltb _ reserved_from z

  -- the two quantities of module m
  abbrev place : ℕ → ℕ
  place m = quantities_from + quantities_length * m

  abbrev right : ℕ → Bool
  right m = two_right r (place m)

  -- quantity i, counted through, is the fuel or the oxidizer of its module
  abbrev at : ℕ → ℕ
  at i = quantities_from + quantity_length * i

  which : (i : ℕ) → (at i ≡ place (i / 2)) ⊎ (at i ≡ place (i / 2) + quantity_length)
  which i = by (ℕ_discrete (i % 2) 0)
    where
      by : Dec (i % 2 ≡ 0) → (at i ≡ place (i / 2)) ⊎ (at i ≡ place (i / 2) + quantity_length)
      by (yes e) = inl (omega arith)
      by (no e) = inr (omega arith)

  pub quantities-to : quantities_right r ≡ true → QuantitiesRight r
  unfolding quantities_right
  quantities-to e i l = by (which i)
    where
      both : right (i / 2) ≡ true
      both = every-at module_count right e (i / 2) (omega arith)

      by : (at i ≡ place (i / 2)) ⊎ (at i ≡ place (i / 2) + quantity_length) → two r (at i) ≤ most_quantity
      by (inl q) = rw q (leb-true _ most_quantity (and_left (leb (two r (place (i / 2))) most_quantity) _ both))
      by (inr q) =
          rw q (leb-true _ most_quantity (and_right (leb (two r (place (i / 2))) most_quantity) _ both))

  pub quantities-from : QuantitiesRight r → quantities_right r ≡ true
  unfolding quantities_right
  quantities-from q =
      every-from module_count right (λ m l.
      let fuel : at (2 * m) ≡ place m = omega arith in
      let oxidizer : at (2 * m + 1) ≡ place m + quantity_length = omega arith in
      and_both (leb (two r (place m)) most_quantity) (leb (two r (place m + quantity_length)) most_quantity)
      (le-leb _ most_quantity (subst (λ (i : ℕ). two r i ≤ most_quantity) fuel (q (2 * m) (omega arith))))
      (le-leb _ most_quantity (subst (λ (i : ℕ). two r i ≤ most_quantity) oxidizer (q (2 * m + 1) (omega arith)))))

  pub sum_to : (n : ℕ) → length r ≡ n → sum_right n r ≡ true → SumRight r
  unfolding sum_of
  sum_to n l e = rw l (eqb-true _ _ e)

  pub sum-from : (n : ℕ) → length r ≡ n → SumRight r → sum_right n r ≡ true
  unfolding sum_of
  sum-from n l s = eq-eqb _ _ (rw l at s)
