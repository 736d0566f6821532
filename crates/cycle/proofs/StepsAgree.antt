-- The packed steps, but for step 4, do to jet j on manifold i what the jet's rules say: bit j of each word is the jet's value.
-- Assumes nothing.
use Rattle.std.proofs.Common.{◌≡◌, ℕ, Bool, true, false, cond, not, ◌&&◌, ◌||◌, List, refl, ap, ◌∙◌}
use mathlib.Core.Bool.{or-true}
use Rattle.bits.specs.Bit.{bit}
use Rattle.bits.proofs.Yes.{or-false, and-true, and-false}
use Rattle.bits.proofs.Bits.{bit-and, bit-or, bit-without, bit-none}
use Rattle.cycle.specs.Jets as jets
use Rattle.cycle.specs.Words as words
use Rattle.cycle.specs.Views.{jet_of}
use Rattle.cycle.specs.declared.jet.JetState.{JetState}
use Rattle.cycle.specs.declared.string.StringState.{StringState}

-- 5: what is carried out of requests, by a jet's two values
abbrev carried_out : Bool → Bool → JetState → JetState
carried_out inhibit reenable s =
    jets.with_over
    (record { inhibit = (s.over.inhibit && not reenable) || inhibit; reenable = (s.over.reenable || reenable) && not inhibit })
    (jets.with_fail ((s.standing.fail && not reenable) || inhibit) s)

-- a re-enable is carried out where the valve is remembered as open
carried-out : (inhibit reenable : Bool) (s : JetState)
    → carried_out inhibit (reenable && s.standing.valve) s ≡ jets.requested inhibit reenable s
unfolding jets.requested
carried-out true reenable s = simp (or-true, and-false)
carried-out false true s = by s.standing.valve
  where
    by : (opened : Bool) → carried_out false opened s ≡ cond opened (jets.reenabled s) s
    by true = simp (or-true, or-false, and-false, and-true)
    by false = simp (or-false, and-true)
carried-out false false s = simp (or-false, and-true)

module _ (i j : ℕ) where
  -- 1
  pub path-lost-agrees : (s : StringState) → jet_of i j (words.path_lost s) ≡ jets.path_lost (jet_of i j s)
  unfolding words.path_lost jets.path_lost
  path-lost-agrees s = refl

  pub recovered-agrees : (s : StringState) → jet_of i j (words.recovered s) ≡ jets.recovered (jet_of i j s)
  unfolding words.recovered jets.recovered
  recovered-agrees s = by s.lost
    where
      back : StringState
      back = words.with_lost false (words.with_on words.no_on (words.with_off words.no_off (words.with_standing s.good s)))

      jet-back : JetState → JetState
      jet-back x = jets.with_lost false (jets.with_on jets.no_on (jets.with_off jets.no_off (jets.with_standing x.good x)))

      by : (b : Bool) → jet_of i j (cond b back s) ≡ cond b (jet-back (jet_of i j s)) (jet_of i j s)
      by true = simp bit-none
      by false = refl

  -- 2
  pub gapped-agrees : (gap missed : Bool) (s : StringState)
      → jet_of i j (words.gapped gap missed s) ≡ jets.gapped gap missed (jet_of i j s)
  unfolding words.gapped jets.gapped
  gapped-agrees true true s = simp bit-none
  gapped-agrees true false s = simp bit-none
  gapped-agrees false true s = simp bit-none
  gapped-agrees false false s = refl

  -- 3
  pub off-failure-agrees : (commanded pressure : ℕ) (s : StringState)
      → jet_of i j (words.off_failure commanded pressure s) ≡ jets.off_failure (bit j commanded) (bit j pressure) (jet_of i j s)
  unfolding words.off_failure jets.off_failure
  off-failure-agrees commanded pressure s = simp (bit-and, bit-or, bit-without)

  -- 5
  pub requested-agrees : (inhibit heeded drop : ℕ) (reenable : Bool) (s : StringState)
      → bit j heeded ≡ (reenable && bit i s.standing.valves)
      → jet_of i j (words.requested inhibit heeded drop s) ≡ jets.requested (bit j inhibit) reenable (jet_of i j s)
  unfolding words.requested
  requested-agrees inhibit heeded drop reenable s own =
      let e : jet_of i j (words.requested inhibit heeded drop s) ≡ carried_out (bit j inhibit) (bit j heeded) (jet_of i j s) =
      simp (bit-or, bit-without) in
      e
      ∙ ap (λ (b : Bool). carried_out (bit j inhibit) b (jet_of i j s)) own
      ∙ carried-out (bit j inhibit) reenable (jet_of i j s)

  -- 6
  pub rechecked-agrees : (m : ℕ) (masks : List ℕ) (bad : ℕ) (s : StringState) → jet_of i j (words.rechecked m masks bad s) ≡ jet_of i j s
  unfolding words.rechecked
  rechecked-agrees m masks bad s = refl

  -- 7
  pub on-failure-agrees : (bad : ℕ) (s : StringState) → jet_of i j (words.on_failure bad s) ≡ jets.on_failure (bit j bad) (jet_of i j s)
  unfolding words.on_failure jets.on_failure
  on-failure-agrees bad s = simp (bit-and, bit-or, bit-without)

  -- 8
  pub kept-agrees : (s : StringState) → jet_of i j (words.kept s) ≡ jets.kept (jet_of i j s)
  unfolding words.kept jets.kept
  kept-agrees s = refl
