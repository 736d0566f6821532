-- The jets behind valves remembered as closed, whose re-enables step 5 ignores: with disjoint masks a mapped jet is one of them exactly if
-- its own manifold's valve is. Assumes nothing.
use Rattle.std.proofs.Common.{◌≡◌, ℕ, zero, suc, ◌+◌, ◌<◌, Bool, true, false, cond, not, List, get_or, sym, refl, ap, ◌∙◌, add-one}
use lib.Bits.{bit_or}
use Rattle.bits.specs.Bit.{bit}
use Rattle.bits.proofs.Yes.{not-both, not_yes, not-false}
use Rattle.bits.proofs.Bits.{bit-none}
use Rattle.cycle.specs.Map.{InMask}
use Rattle.cycle.specs.Words.{behind_closed}
use Rattle.cycle.specs.Proper.{Disjoint}
use Rattle.cycle.proofs.Maps.{union, union-jet, union-found}

module _ (masks : List ℕ) (valves j : ℕ) where
  -- the jets of manifold i, if its valve is closed
  abbrev shut : ℕ → ℕ
  shut i = cond (bit i valves) 0 (get_or masks i 0)

  shut-jet : (i : ℕ) → InMask masks i j → bit i valves ≡ false → bit j (shut i) ≡ true
  shut-jet i stands closed = rw closed stands

  shut-found : (i : ℕ) → bit j (shut i) ≡ true → InMask masks i j × (bit i valves ≡ false)
  shut-found i = by (bit i valves) refl
    where
      by : (b : Bool) → bit i valves ≡ b → bit j (cond b 0 (get_or masks i 0)) ≡ true → InMask masks i j × (bit i valves ≡ false)
      by true v e = not-both (bit j 0) e (bit-none j)
      by false v e = (e, v)

  closed-union : (n : ℕ) → behind_closed n masks valves ≡ union shut n
  unfolding behind_closed union
  closed-union zero = refl
  closed-union (suc n) = ap (λ (w : ℕ). bit_or w (shut n)) (closed-union n)

  closed-jet : (n i : ℕ) → i < n → InMask masks i j → bit i valves ≡ false → bit j (behind_closed n masks valves) ≡ true
  closed-jet n i l stands closed = ap (bit j) (closed-union n) ∙ union-jet shut j n i l (shut-jet i stands closed)

  closed-found : (n : ℕ) → bit j (behind_closed n masks valves) ≡ true
      → (i : ℕ) × (i < n) × InMask masks i j × (bit i valves ≡ false)
  closed-found n e =
      let x = union-found shut j n (ap (bit j) (sym (closed-union n)) ∙ e) in
      let y = shut-found x.0 x.2 in (x.0, x.1, y.0, y.1)

pub own-valve : (m i j : ℕ) (masks : List ℕ) (valves : ℕ) → Disjoint m masks → i < m → InMask masks i j
    → not (bit j (behind_closed m masks valves)) ≡ bit i valves
own-valve m i j masks valves d below stands = by (bit i valves) refl
  where
    by : (opened : Bool) → bit i valves ≡ opened → not (bit j (behind_closed m masks valves)) ≡ opened
    by true v =
        not-false (bit j (behind_closed m masks valves))
        (not_yes (bit j (behind_closed m masks valves))
        (λ e.
        let x = closed-found masks valves j m e in
        not-both (bit i valves) v (ap (λ (k : ℕ). bit k valves) (d.apart i x.0 j below x.1 stands x.2) ∙ x.3)))
    by false v = ap not (closed-jet masks valves j m i below stands v)

-- the loop over the manifolds
pub closed-turn : (masks : List ℕ) (valves i : ℕ) {seen closed : ℕ} → seen ≡ behind_closed i masks valves
    → closed ≡ cond (bit i valves) 0 (get_or masks i 0) → bit_or seen closed ≡ behind_closed (i + 1) masks valves
unfolding behind_closed
closed-turn masks valves i e f = rw (add-one, e, f)
