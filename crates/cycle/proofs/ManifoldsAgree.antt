-- Step 4 on packed words does to jet j on manifold i what the jet's rule says. On the way through the manifolds, lowest first, those other
-- than i leave the jet alone: it stands in no other mask, so in no other saved set. Assumes nothing.
use Rattle.std.proofs.Common.{◌≡◌, ℕ, zero, suc, ◌<◌, ◌≤◌, Bool, true, false, ◌≢◌, List, length, get_or, sym, refl, ap, ◌∙◌, ⊎_elim, le_refl, le_of_suc-le-suc, not-suc-le-zero, eq-or-lt_of_le, arith, get_or-set_other, get_or-set_same}
use mathlib.Core.Bool.{or-true, and-false}
use Rattle.bits.specs.Bit.{bit}
use Rattle.bits.proofs.Yes.{or-false, and-true, not_yes}
use Rattle.bits.proofs.Bits.{bit-or, bit-without}
use Rattle.cycle.specs.Jets as jets
use Rattle.cycle.specs.Words as words
use Rattle.cycle.specs.Words.{Passed, passed, manifold, handled, at_manifold}
use Rattle.cycle.specs.Views.{jet_of}
use Rattle.cycle.specs.Map.{InMask}
use Rattle.cycle.specs.Proper.{Disjoint, ProperString}
use Rattle.cycle.specs.declared.string.StringState.{StringState}
use Rattle.cycle.proofs.SetsKept.{ProperSets, passed-proper}

-- the string on the way: its fail word, re-enables and saved sets as passed so far
abbrev on_the_way : Passed → StringState → StringState
on_the_way p s =
    words.with_over (record { inhibit = s.over.inhibit; reenable = p.reenable })
    (words.with_standing (record { fail = p.fail; valves = s.standing.valves; saved = p.saved }) s)

module _ (i j : ℕ) (s : StringState) where
  -- another manifold, in whose mask and saved set the jet is not
  other-manifold : (k mask : ℕ) (was now : Bool) (p : Passed) → i ≢ k → bit j mask ≡ false → bit j (get_or p.saved k 0) ≡ false
      → jet_of i j (on_the_way (handled k (manifold mask was now (at_manifold k p)) p) s) ≡ jet_of i j (on_the_way p s)
  unfolding manifold
  other-manifold k mask true true p ne out free = simp get_or-set_other
  other-manifold k mask true false p ne out free = simp (bit-or, bit-without, out, or-false, and-true, get_or-set_other)
  other-manifold k mask false true p ne out free = simp (bit-without, free, and-true, get_or-set_other)
  other-manifold k mask false false p ne out free = simp get_or-set_other

  -- its own manifold
  own-manifold : (mask : ℕ) (was now : Bool) (p : Passed) → i < length p.saved → bit j mask ≡ true
      → jet_of i j (on_the_way (handled i (manifold mask was now (at_manifold i p)) p) s) ≡ jets.valve_moved was now (jet_of i j (on_the_way p s))
  unfolding manifold jets.valve_moved
  own-manifold mask true true p l stands = simp get_or-set_same
  own-manifold mask true false p l stands = simp (bit-or, bit-without, stands, or-true, and-false, get_or-set_same)
  own-manifold mask false true p l stands = simp (bit-without, get_or-set_same)
  own-manifold mask false false p l stands = simp get_or-set_same

  module _ (m : ℕ) (masks : List ℕ) (d : Disjoint m masks) (below : i < m) (stands : InMask masks i j) (was now : ℕ) (p : Passed)
      (proper : ProperSets m masks p.saved) where
    -- a manifold other than i, after those below it
    another : (n : ℕ) → n < m → i ≢ n
        → jet_of i j (on_the_way (passed (suc n) masks was now p) s) ≡ jet_of i j (on_the_way (passed n masks was now p) s)
    unfolding passed
    another n l ne =
        let q : Passed = passed n masks was now p in
        let sets : ProperSets m masks q.saved = passed-proper m masks n was now p (omega arith) proper in
        other-manifold n (get_or masks n 0) (bit n was) (bit n now) q ne
        (not_yes (bit j (get_or masks n 0)) (λ e. ne (d.apart i n j below l stands e)))
        (not_yes (bit j (get_or q.saved n 0)) (λ e. ne (d.apart i n j below l stands (sets.within n j l e))))

    -- up to i nothing has changed for the jet
    before : (n : ℕ) → n ≤ i → jet_of i j (on_the_way (passed n masks was now p) s) ≡ jet_of i j (on_the_way p s)
    unfolding passed
    before zero l = refl
    before (suc n) l = another n (omega arith) (λ e. omega arith) ∙ before n (omega arith)

    -- at i it is moved by its valve
    own : jet_of i j (on_the_way (passed (suc i) masks was now p) s) ≡ jets.valve_moved (bit i was) (bit i now) (jet_of i j (on_the_way p s))
    unfolding passed
    own =
        let q : Passed = passed i masks was now p in
        let sets : ProperSets m masks q.saved = passed-proper m masks i was now p (omega arith) proper in
        own-manifold (get_or masks i 0) (bit i was) (bit i now) q (omega (arith, sets.long)) stands
        ∙ ap (jets.valve_moved (bit i was) (bit i now)) (before i (le_refl i))

    -- and past i nothing changes again
    after : (n : ℕ) → i < n → n ≤ m
        → jet_of i j (on_the_way (passed n masks was now p) s) ≡ jets.valve_moved (bit i was) (bit i now) (jet_of i j (on_the_way p s))
    after zero l h = absurd (not-suc-le-zero l)
    after (suc n) l h =
        ⊎_elim (λ (e : i ≡ n). ap (λ (k : ℕ). jet_of i j (on_the_way (passed (suc k) masks was now p) s)) (sym e) ∙ own)
        (λ (b : i < n). another n h (λ e. omega arith) ∙ after n b (omega arith))
        (eq-or-lt_of_le (le_of_suc-le-suc l))

pub manifolds-agree : (m i j : ℕ) (masks : List ℕ) (now : ℕ) (s : StringState) → Disjoint m masks → i < m → InMask masks i j
    → ProperString m masks s → jet_of i j (words.manifolds m masks now s) ≡ jets.manifold_step (bit i now) (jet_of i j s)
unfolding words.manifolds jets.remembered
manifolds-agree m i j masks now s d below stands proper =
    let start : Passed = record { fail = s.standing.fail; reenable = s.over.reenable; saved = s.standing.saved } in
    let was : ℕ = s.standing.valves in
    let sets : ProperSets m masks s.standing.saved = record { long = proper.standing.long; within = proper.standing.within } in
    let e : jet_of i j (words.remembered now (passed m masks was now start) s)
    ≡ jets.remembered (bit i now) (jet_of i j (on_the_way (passed m masks was now start) s)) = simp bit-or in
    e ∙ ap (jets.remembered (bit i now)) (after i j s m masks d below stands was now start sets m below (le_refl m))
