-- Every proper hall, whether a run reaches it or not, is stepped jet by jet as the rules say. Assumes nothing.
use Rattle.std.proofs.Common.{◌≡◌, ℕ, ◌<◌, true, not, ◌&&◌, ◌||◌, get_or, sym, refl, ap, ◌∙◌}
use Rattle.bits.specs.Bit.{bit, any}
use Rattle.bits.proofs.Yes.{not-both}
use Rattle.cycle.specs.Size.{string_count, jet_count, manifold_count}
use Rattle.cycle.specs.Answers.{is_taken}
use Rattle.cycle.specs.Jets as jets
use Rattle.cycle.specs.Records.{Record, common}
use Rattle.cycle.specs.Map.{masks_of, InMask}
use Rattle.cycle.specs.Hall.{string_of, verdict_on, stepped_by, stepped}
use Rattle.cycle.specs.Views.{jet_of, jet_record}
use Rattle.cycle.specs.Proper.{ProperHall}
use Rattle.cycle.specs.Inside.Drops.{drops_close}
use Rattle.cycle.specs.declared.hall.Hall.{Hall}
use Rattle.cycle.specs.declared.hall.Stepped.{Stepped}
use Rattle.cycle.specs.Numbers.{Verdict}
use Rattle.std.specs.Prelude.{Ok, Err}
use Rattle.cycle.proofs.Verdicts.{verdict-follows, verdict-untaken}
use Rattle.cycle.proofs.HallAgrees.{jet-after, close-after, number-after}

module _ (r : Record) (h : Hall) (p : ProperHall h) (s i : ℕ) (l : s < string_count) (below : i < manifold_count) where
  -- the jet's values in the record, which led to the number n
  abbrev says : ℕ → ℕ → jets.JetRecord
  says n j = jet_record n s i j r

  abbrev JetSteps : ℕ → Stepped Hall → Type 0
  JetSteps j x = jet_of i j (string_of x.hall s) ≡ jets.cycle h.n (says x.hall.n j) (jet_of i j (string_of h s))

  abbrev CloseSteps : Stepped Hall → Type 0
  CloseSteps x =
      bit i (string_of x.hall s).close
      ≡ ((bit i (string_of h s).close && not (drops_close x.hall.n s i r))
      || any jet_count
      (λ j. bit j (get_or (masks_of h.masks s) i 0) && jets.asks_at h.n (says x.hall.n j) (jet_of i j (string_of h s))))

  pub stepped-jet : is_taken (stepped r h).answer ≡ true → (j : ℕ) → InMask (masks_of h.masks s) i j → JetSteps j (stepped r h)
  unfolding stepped
  stepped-jet t j stands = by (verdict_on h.n h.masks r) refl t
    where
      by : (v : Verdict) → verdict_on h.n h.masks r ≡ v → is_taken (stepped_by v r h).answer ≡ true
          → JetSteps j (stepped_by v r h)
      by (Ok next) e u =
          jet-after h p (common r).wire next s l r (verdict-follows h.n h.masks r next e) i j below stands
          ∙ ap (λ (n : ℕ). jets.cycle h.n (says n j) (jet_of i j (string_of h s))) (sym (number-after r next h))
      by (Err a) e u = not-both (is_taken a) u (verdict-untaken h.n h.masks r a e)

  pub stepped-close : is_taken (stepped r h).answer ≡ true → CloseSteps (stepped r h)
  unfolding stepped
  stepped-close t = by (verdict_on h.n h.masks r) refl t
    where
      by : (v : Verdict) → verdict_on h.n h.masks r ≡ v → is_taken (stepped_by v r h).answer ≡ true
          → CloseSteps (stepped_by v r h)
      by (Ok next) e u =
          close-after h p (common r).wire next s l r (verdict-follows h.n h.masks r next e) i below
          ∙ ap
          (λ (n : ℕ).
          (bit i (string_of h s).close && not (drops_close n s i r))
          || any jet_count
          (λ j. bit j (get_or (masks_of h.masks s) i 0) && jets.asks_at h.n (says n j) (jet_of i j (string_of h s))))
          (sym (number-after r next h))
      by (Err a) e u = not-both (is_taken a) u (verdict-untaken h.n h.masks r a e)
