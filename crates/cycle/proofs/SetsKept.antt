-- Step 4, on its way through the manifolds, keeps a saved set for each, within its mask: at a closing the set is a part of the mask.
-- Assumes nothing.
use Rattle.std.proofs.Common.{◌≡◌, ℕ, zero, suc, ◌<◌, ◌≤◌, Bool, true, false, not, List, length, get_or, set, sym, ap, ◌∙◌, arith, length-set, get_or-set_other, get_or-set_same}
use native.Mathlib.Decide.{ℕ_discrete}
use Rattle.bits.specs.Bit.{bit}
use Rattle.bits.proofs.Yes.{and_left}
use Rattle.bits.proofs.Bits.{bit-without}
use Rattle.cycle.specs.Map.{InMask}
use Rattle.cycle.specs.Words.{Passed, at_manifold, manifold, passed}
use Rattle.cycle.specs.declared.string.AtManifold.{AtManifold}

-- the saved sets by themselves, as step 4 has them on its way
pub record ProperSets (m : ℕ) (masks sets : List ℕ) : Type 0 where
  pub long : length sets ≡ m
  pub within : (i j : ℕ) → i < m → bit j (get_or sets i 0) ≡ true → InMask masks i j

-- one manifold's set stays within its mask
manifold-within : (mask : ℕ) (was now : Bool) (a : AtManifold) → ((j : ℕ) → bit j a.saved ≡ true → bit j mask ≡ true)
    → (j : ℕ) → bit j (manifold mask was now a).saved ≡ true → bit j mask ≡ true
unfolding manifold
manifold-within mask true true a w j h = w j h
manifold-within mask true false a w j h = and_left (bit j mask) (not (bit j a.fail)) (sym (bit-without j mask a.fail) ∙ h)
manifold-within mask false true a w j h = w j h
manifold-within mask false false a w j h = w j h

module _ (m : ℕ) (masks : List ℕ) where
  -- one set written anew, within its mask
  set-proper : (sets : List ℕ) (k w : ℕ) → k < m → ((j : ℕ) → bit j w ≡ true → InMask masks k j) → ProperSets m masks sets
      → ProperSets m masks (set sets k w)
  set-proper sets k w l h p = record { long = length-set sets k w ∙ p.long; within = in-mask }
    where
      in-mask : (i j : ℕ) → i < m → bit j (get_or (set sets k w) i 0) ≡ true → InMask masks i j
      in-mask i j b e = by (ℕ_discrete i k)
        where
          here : k < length sets
          here = omega (arith, p.long)

          by : Dec (i ≡ k) → InMask masks i j
          by (yes q) = rw q (h j (ap (bit j) (sym (get_or-set_same sets k w 0 here)) ∙ (rw q at e)))
          by (no q) = p.within i j b (sym (ap (bit j) (get_or-set_other sets k i w 0 q)) ∙ e)

  -- on the way through the lowest n manifolds
  pub passed-proper : (n was now : ℕ) (p : Passed) → n ≤ m → ProperSets m masks p.saved
      → ProperSets m masks (passed n masks was now p).saved
  unfolding passed
  passed-proper zero was now p l h = h
  passed-proper (suc n) was now p l h =
      let q : Passed = passed n masks was now p in
      let r : ProperSets m masks q.saved = passed-proper n was now p (omega arith) h in
      set-proper q.saved n (manifold (get_or masks n 0) (bit n was) (bit n now) (at_manifold n q)).saved l
      (manifold-within (get_or masks n 0) (bit n was) (bit n now) (at_manifold n q) (λ j. r.within n j l)) r
