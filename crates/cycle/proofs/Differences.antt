-- Fuel less oxidizer: the word in two's complement by wrapping subtraction; what it is as a signed number, for quantities of at most 1,000;
-- and what it then says of balance. Assumes nothing.
use Rattle.std.proofs.Common.{◌≡◌, ℕ, zero, suc, ◌+◌, ◌-◌, ◌%◌, ◌<◌, ◌≤◌, Bool, true, ◌⊎◌, ◌↔◌, pos, negsuc, ◌-ℤ◌, ap, inl, inr, ⊎_elim, arith, ltb→lt, lt→ltb, to_z-of_z, w16, SFits, of_z, le-ltb, lt-ltb}
use native.Mathlib.Decide.{dec_lt}
use Rattle.cycle.specs.Leak.{signed}
use Rattle.cycle.specs.Banks.{fuel_less_oxidizer, ToldByDifference}
use Rattle.cycle.specs.declared.values.Quantities.{Quantities}

-- ---- a number less another

pub less-above : (a b : ℕ) → b ≤ a → pos a -ℤ pos b ≡ pos (a - b)
less-above a zero l = ap pos (omega arith)
less-above a (suc b) l = rw (le-ltb a (suc b) l)

pub less-below : (a b : ℕ) → a < b → pos a -ℤ pos b ≡ negsuc (b - suc a)
less-below a zero l = absurd (omega arith)
less-below a (suc b) l = rw (lt-ltb a (suc b) l)

data Less (a b : ℕ) : Type 0 where
  above : b ≤ a → pos a -ℤ pos b ≡ pos (a - b) → Less a b
  below : a < b → pos a -ℤ pos b ≡ negsuc (b - suc a) → Less a b

less : (a b : ℕ) → Less a b
less a b = by (dec_lt a b)
  where
    by : Dec (a < b) → Less a b
    by (yes l) = below l (less-below a b l)
    by (no f) = above (omega arith) (less-above a b (omega arith))

-- ---- the word

module _ (q : Quantities) where
  abbrev fuel : ℕ
  fuel = q.fuel

  abbrev oxidizer : ℕ
  oxidizer = q.oxidizer

  word-above : pos fuel -ℤ pos oxidizer ≡ pos (fuel - oxidizer) → fuel_less_oxidizer q ≡ fuel - oxidizer
  unfolding fuel_less_oxidizer
  word-above e = ap (of_z w16) e

  word_below : pos fuel -ℤ pos oxidizer ≡ negsuc (oxidizer - suc fuel)
      → fuel_less_oxidizer q ≡ 65536 - suc (oxidizer - suc fuel)
  unfolding fuel_less_oxidizer
  word_below e = ap (of_z w16) e

  -- as a wrapping subtraction gives it
  pub wrapped : fuel ≤ 65535 → oxidizer ≤ 65535 → fuel_less_oxidizer q ≡ (fuel + (65536 - oxidizer)) % 65536
  wrapped f o = by (less fuel oxidizer)
    where
      by : Less fuel oxidizer → fuel_less_oxidizer q ≡ (fuel + (65536 - oxidizer)) % 65536
      by (above l e) = omega (arith, word-above e)
      by (below l e) = omega (arith, word_below e)

  pub added-back : fuel ≤ 65535 → oxidizer ≤ 65535
      → (fuel_less_oxidizer q ≤ 65535) × ((fuel_less_oxidizer q + oxidizer) % 65536 ≡ fuel)
  added-back f o = let e = wrapped f o in (omega (arith, e), omega (arith, e))

  -- read back, where neither is above 1,000
  pub signed-less : fuel ≤ 1000 → oxidizer ≤ 1000 → signed (fuel_less_oxidizer q) ≡ pos fuel -ℤ pos oxidizer
  unfolding fuel_less_oxidizer
  signed-less f o = to_z-of_z (by (less fuel oxidizer))
    where
      by : Less fuel oxidizer → SFits w16 (pos fuel -ℤ pos oxidizer)
      by (above l e) = rw e (record { sfits = omega arith })
      by (below l e) = rw e (record { sfits = omega arith })

-- ---- what it says of the flags

pub told-by : (unbalanced strictly : Bool) (fuel oxidizer : ℕ) → fuel ≤ 1000 → oxidizer ≤ 1000
    → (unbalanced ≡ true) ↔ ((fuel + 16 < oxidizer) ⊎ (oxidizer + 16 < fuel))
    → (strictly ≡ true) ↔ (oxidizer < fuel)
    → ToldByDifference unbalanced strictly (pos fuel -ℤ pos oxidizer)
told-by unbalanced strictly fuel oxidizer f o apart less-fuel = by (less fuel oxidizer)
  where
    by : Less fuel oxidizer → ToldByDifference unbalanced strictly (pos fuel -ℤ pos oxidizer)
    by (above l e) = rw e (record {
      within = omega arith;
      apart = (
        (λ u. ⊎_elim (λ a. absurd (omega arith)) (λ b. omega arith) (apart.0 u)),
        (λ far. apart.1 (inr (omega arith))),
      );
      strictly = (
        (λ u. record { lt = lt→ltb 0 (fuel - oxidizer) (omega (arith, less-fuel.0 u)) }),
        (λ p. less-fuel.1 (omega (arith, ltb→lt 0 (fuel - oxidizer) p.lt))),
      );
    })
    by (below l e) = rw e (record {
      within = omega arith;
      apart = (
        (λ u. ⊎_elim (λ a. omega arith) (λ b. absurd (omega arith)) (apart.0 u)),
        (λ far. apart.1 (inl (omega arith))),
      );
      strictly = ((λ u. absurd (omega (arith, less-fuel.0 u))), (λ p. absurd p.lt));
    })
