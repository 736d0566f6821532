-- A taken record's whole cycle of a string: each mapped jet does what Jets says of the cycle, and a manifold's close bit goes exactly where
-- a drop is carried out, and comes exactly where one of its jets asks for it. Assumes nothing.
use Rattle.std.proofs.Common.{◌≡◌, ℕ, ◌^◌, ◌<◌, Bool, true, false, not, ◌&&◌, ◌||◌, List, get_or, sym, refl, ap, ◌∙◌, ap₂}
use Rattle.bits.specs.Bit.{bit, any}
use Rattle.bits.proofs.Yes.{and-true, and-false, or-false}
use Rattle.bits.proofs.Words.{any_none}
use Rattle.cycle.specs.Size.{jet_count}
use Rattle.cycle.specs.Numbers.{is_major, missed_cycle, missed_major}
use Rattle.cycle.specs.Jets as jets
use Rattle.cycle.specs.Words as words
use Rattle.cycle.specs.Views.{jet_of, jet_says}
use Rattle.cycle.specs.Map.{InMask}
use Rattle.cycle.specs.Proper.{Disjoint, ProperString}
use Rattle.cycle.specs.declared.string.StringState.{StringState}
use Rattle.cycle.specs.declared.values.Sample.{Sample}
use Rattle.cycle.specs.declared.values.Temperatures.{Temperatures}
use Rattle.cycle.specs.declared.values.Requests.{Requests}
use Rattle.cycle.proofs.StepsAgree.{path-lost-agrees}
use Rattle.cycle.proofs.CyclesAgree.{minor-steps-agree, major-steps-agree, minor-steps-close, major-steps-close, major-steps-fit}

module _ (m : ℕ) (masks : List ℕ) (x : Sample) (q : Requests) (t : Temperatures) (old n : ℕ) where
  -- steps 1 to 4, and 1 to 8, with the gap told by the two cycle numbers
  abbrev pub minorly : Bool → StringState → StringState
  minorly path s = words.minor_cycle m masks path x (missed_cycle old n) (missed_major old n) s

  abbrev pub majorly : Bool → StringState → StringState
  majorly path s = words.major_cycle m masks path x t q (minorly path s)

module _ (m : ℕ) (masks : List ℕ) (d : Disjoint m masks) (x : Sample) (q : Requests) (t : Temperatures) (old n : ℕ)
    (s : StringState) (p : ProperString m masks s) where
  -- ---- the jet

  module _ (i j : ℕ) (below : i < m) (stands : InMask masks i j) where
    pub minor-cycle-agrees : (path : Bool) → is_major n ≡ false
        → jet_of i j (minorly m masks x q t old n path s) ≡ jets.cycle old (jet_says n path i j x q t) (jet_of i j s)
    unfolding words.minor_cycle jets.cycle
    minor-cycle-agrees true k = path-lost-agrees i j s
    minor-cycle-agrees false k = rw k (minor-steps-agree m i j masks x q t old n false s d below stands p)

    pub major-cycle-agrees : (path : Bool) → j < jet_count → is_major n ≡ true
        → jet_of i j (majorly m masks x q t old n path s) ≡ jets.cycle old (jet_says n path i j x q t) (jet_of i j s)
    unfolding words.minor_cycle words.major_cycle jets.cycle
    major-cycle-agrees true l k = path-lost-agrees i j s
    major-cycle-agrees false l k = rw k (major-steps-agree m i j masks x q t old n false s d below stands p l)

  -- ---- the close bits

  pub minor-cycle-close : (path : Bool) → (minorly m masks x q t old n path s).close ≡ s.close
  unfolding words.minor_cycle words.path_lost
  minor-cycle-close true = refl
  minor-cycle-close false = minor-steps-close m masks x (missed_cycle old n) (missed_major old n) s

  pub minor-cycle-fits : (path : Bool) → s.close < 2 ^ m → (minorly m masks x q t old n path s).close < 2 ^ m
  minor-cycle-fits path l = rw (minor-cycle-close path) l

  pub major-cycle-fits : (path : Bool) → s.close < 2 ^ m → (majorly m masks x q t old n path s).close < 2 ^ m
  unfolding words.major_cycle
  major-cycle-fits true l = minor-cycle-fits true l
  major-cycle-fits false l = major-steps-fit m masks x q t (minorly m masks x q t old n false s) (minor-cycle-fits false l)

  -- no jet asks at a minor cycle, or under a path fault
  asks_none : (path : Bool) (i j : ℕ) → (not path && is_major n) ≡ false
      → jets.asks_at old (jet_says n path i j x q t) (jet_of i j s) ≡ false
  unfolding jets.asks_at
  asks_none path i j e = ap (λ (b : Bool). b && jets.asks (jets.is_bad r) (jets.after_requests old r (jet_of i j s))) e
    where
      r : jets.JetRecord
      r = jet_says n path i j x q t

  -- manifold i's close bit, as it was or dropped
  abbrev still : Bool → ℕ → Bool
  still path i = bit i s.close && not (jets.drop_done path n (bit i q.drop))

  pub quiet-close : (path : Bool) (i : ℕ) → (not path && is_major n) ≡ false
      → (still path i || any jet_count (λ j. bit j (get_or masks i 0) && jets.asks_at old (jet_says n path i j x q t) (jet_of i j s)))
      ≡ bit i s.close
  quiet-close path i e =
      ap₂ (λ (a b : Bool). (bit i s.close && not (a && bit i q.drop)) || b) e
      (any_none jet_count (λ j. bit j (get_or masks i 0) && jets.asks_at old (jet_says n path i j x q t) (jet_of i j s))
      (λ j l. ap (λ (b : Bool). bit j (get_or masks i 0) && b) (asks_none path i j e) ∙ and-false (bit j (get_or masks i 0))))
      ∙ or-false (bit i s.close && true)
      ∙ and-true (bit i s.close)

  pub major-cycle-close : (path : Bool) (i : ℕ) → i < m → is_major n ≡ true
      → bit i (majorly m masks x q t old n path s).close
      ≡ (still path i || any jet_count (λ j. bit j (get_or masks i 0) && jets.asks_at old (jet_says n path i j x q t) (jet_of i j s)))
  unfolding words.minor_cycle words.major_cycle words.path_lost jets.asks_at
  major-cycle-close true i below k = sym (quiet-close true i refl)
  major-cycle-close false i below k = rw k (major-steps-close m i masks x q t old n false s d below p)
