-- What a record says of jet j on manifold i is what the packed words of the record say at bit j: the mapped jets, the requests carried
-- out, the bad jets, and those that ask for their manifold's close bit. Assumes nothing.
use Rattle.std.proofs.Common.{◌≡◌, ℕ, ◌<◌, Bool, not, ◌&&◌, ◌||◌, List, sym, ap, ◌∙◌, ap₂}
use mathlib.Core.Bool.{and_comm, and_assoc}
use lib.Bits.{bit_and, bit_or}
use Rattle.bits.specs.Bit.{bit, without}
use Rattle.bits.proofs.Bits.{bit-and, bit-or, bit-without}
use Rattle.cycle.specs.Size.{jet_count}
use Rattle.cycle.specs.Map.{InMask, mapped}
use Rattle.cycle.specs.Jets as jets
use Rattle.cycle.specs.Words as words
use Rattle.cycle.specs.Views.{jet_of, jet_says}
use Rattle.cycle.specs.Proper.{Disjoint}
use Rattle.cycle.specs.declared.string.StringState.{StringState}
use Rattle.cycle.specs.declared.values.Sample.{Sample}
use Rattle.cycle.specs.declared.values.Temperatures.{Temperatures}
use Rattle.cycle.specs.declared.values.Requests.{Requests}
use Rattle.cycle.proofs.Maps.{mapped-jet}
use Rattle.cycle.proofs.BehindClosed.{own-valve}
use Rattle.cycle.proofs.MappedLeaks.{leak-at}
use Rattle.cycle.proofs.StepsAgree.{requested-agrees}

module _ (m i j : ℕ) (masks : List ℕ) (below : i < m) (stands : InMask masks i j) where
  -- a word cut down to mapped jets has the jet's bit still
  pub heard : (w : ℕ) → bit j (bit_and (mapped m masks) w) ≡ bit j w
  heard w = bit-and j (mapped m masks) w ∙ ap (λ (b : Bool). b && bit j w) (mapped-jet masks j m i below stands)

  -- step 5
  pub requests-heard : Disjoint m masks → (q : Requests) (s : StringState)
      → jet_of i j (words.after_requests m masks q s)
      ≡ jets.requested (bit j q.inhibit) (bit j q.reenable) (jet_of i j s)
  requests-heard d q s =
      let named : ℕ = bit_and (mapped m masks) q.reenable in
      let closed : ℕ = words.behind_closed m masks s.standing.valves in
      let own : bit j (without named closed) ≡ (bit j q.reenable && bit i s.standing.valves) =
      bit-without j named closed
      ∙ ap₂ (λ (a b : Bool). a && b) (heard q.reenable) (own-valve m i j masks s.standing.valves d below stands) in
      requested-agrees i j (bit_and (mapped m masks) q.inhibit) (without named closed) q.drop (bit j q.reenable) s own
      ∙ ap (λ (a : Bool). jets.requested a (bit j q.reenable) (jet_of i j s)) (heard q.inhibit)

  module _ (x : Sample) (q : Requests) (t : Temperatures) (n : ℕ) (path : Bool) (in_word : j < jet_count) where
    -- step 6
    pub bad-agrees : bit j (words.bad_of m masks x (words.leak_word t)) ≡ jets.is_bad (jet_says n path i j x q t)
    unfolding words.bad_jets jets.is_bad
    bad-agrees =
        let shows : ℕ = bit_or x.driver (words.leak_word t) in
        let acts : Bool = bit j x.driver || words.jet_leaks t.words j in
        let e : bit j shows ≡ acts =
        bit-or j x.driver (words.leak_word t) ∙ ap (λ (b : Bool). bit j x.driver || b) (leak-at t j in_word) in
        bit-without j (bit_and (mapped m masks) shows) x.commanded
        ∙ ap (λ (b : Bool). b && not (bit j x.commanded)) (heard shows ∙ e)
        ∙ and_comm acts (not (bit j x.commanded))

    -- the jet asks for its manifold's close bit exactly where it is in the recheck word and bad again
    pub asked : Disjoint m masks → (s : StringState)
        → (bit j (words.after_requests m masks q s).on.recheck
        && bit j (without (words.bad_of m masks x (words.leak_word t)) (words.after_requests m masks q s).over.reenable))
        ≡ jets.asks (jets.is_bad (jet_says n path i j x q t))
        (jets.requested (bit j q.inhibit) (bit j q.reenable) (jet_of i j s))
    asked d s =
        let r : StringState = words.after_requests m masks q s in
        let bad : ℕ = words.bad_of m masks x (words.leak_word t) in
        ap (λ (b : Bool). bit j r.on.recheck && b) (bit-without j bad r.over.reenable)
        ∙ sym (and_assoc (bit j r.on.recheck) (bit j bad) (not (bit j r.over.reenable)))
        ∙ ap₂ jets.asks bad-agrees (requests-heard d q s)
