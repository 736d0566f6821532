-- A module's banks by arithmetic, with the documents' numbers: out of balance exactly if the quantities differ by more than 16; the
-- oxidizer is the lesser exactly if it is strictly less; the lesser quantity is the smaller one; the difference is fuel less oxidizer; and
-- what it says of the two flags. Assumes nothing.
use Rattle.std.proofs.Common.{ℕ, ◌-◌, ◌<◌, ◌≤◌, Bool, true, false, cond, ltb, refl, inl, inr, ⊎_elim, arith, ltb→lt, le-ltb, lt-ltb}
use native.Mathlib.Decide.{dec_lt}
use Rattle.bits.proofs.Yes.{T_of, not-both}
use Rattle.cycle.specs.Size.{most_apart}
use Rattle.cycle.specs.Leak.{signed}
use Rattle.cycle.specs.Banks.{fuel_less_oxidizer, compared, weighed, Weighed, ToldByDifference}
use Rattle.cycle.specs.declared.banks.Bank.{Bank}
use Rattle.cycle.specs.declared.values.Quantities.{Quantities}
use Rattle.cycle.proofs.Differences.{signed-less, added-back, told-by}

module _ (q : Quantities) where
  abbrev fuel : ℕ
  fuel = q.fuel

  abbrev oxidizer : ℕ
  oxidizer = q.oxidizer

  -- the oxidizer is strictly less
  less : oxidizer < fuel → Weighed fuel oxidizer (compared (fuel_less_oxidizer q) true fuel oxidizer)
  less l = record {
    apart = (
      (λ e. inr (omega (arith, ltb→lt most_apart (fuel - oxidizer) (T_of _ e)))),
      ⊎_elim (λ a. absurd (omega arith)) (λ b. lt-ltb most_apart (fuel - oxidizer) (omega arith)),
    );
    strictly = ((λ e. l), (λ e. refl));
    smaller = omega arith;
    signedly = signed-less q;
    modulo = added-back q;
  }

  -- it is not
  not-less : fuel ≤ oxidizer → Weighed fuel oxidizer (compared (fuel_less_oxidizer q) false oxidizer fuel)
  not-less l = record {
    apart = (
      (λ e. inl (omega (arith, ltb→lt most_apart (oxidizer - fuel) (T_of _ e)))),
      ⊎_elim (λ a. lt-ltb most_apart (oxidizer - fuel) (omega arith)) (λ b. absurd (omega arith)),
    );
    strictly = ((λ e. not-both false e refl), (λ e. absurd (omega arith)));
    smaller = omega arith;
    signedly = signed-less q;
    modulo = added-back q;
  }

  pub weighed-exactly : Weighed fuel oxidizer (weighed q)
  unfolding weighed
  weighed-exactly = by (dec_lt oxidizer fuel)
    where
      result : Bool → Bank
      result b = cond b (compared (fuel_less_oxidizer q) true fuel oxidizer) (compared (fuel_less_oxidizer q) false oxidizer fuel)

      by : Dec (oxidizer < fuel) → Weighed fuel oxidizer (result (ltb oxidizer fuel))
      by (yes l) = rw (lt-ltb oxidizer fuel l) (less l)
      by (no f) = rw (le-ltb oxidizer fuel (omega arith)) (not-less (omega arith))

  -- what the difference says of the flags
  pub quantities-tell : fuel ≤ 1000 → oxidizer ≤ 1000
      → ToldByDifference (weighed q).unbalanced (weighed q).oxidizer (signed (weighed q).difference)
  quantities-tell f o =
      rw (weighed-exactly.signedly f o)
      (told-by (weighed q).unbalanced (weighed q).oxidizer fuel oxidizer f o weighed-exactly.apart weighed-exactly.strictly)
