-- After any run from fresh over an accepted map, a manifold's close bit is set exactly if some jet of its mask has had a third as demand 3
-- words it. Assumes nothing.
use Rattle.std.proofs.Common.{◌≡◌, ℕ, ◌<◌, Bool, true, ◌&&◌, ◌↔◌, List, get_or, sym, ◌∙◌}
use Rattle.bits.specs.Bit.{bit}
use Rattle.bits.proofs.Yes.{and_left, and_right, and_both}
use Rattle.bits.proofs.Words.{any_at, any_found}
use Rattle.cycle.specs.Size.{string_count, jet_count, manifold_count}
use Rattle.cycle.specs.Jets as jets
use Rattle.cycle.specs.Map.{masks_of}
use Rattle.cycle.specs.Hall.{string_of}
use Rattle.cycle.specs.Inside.Runs.{TakenRecord, jet_history}
use Rattle.cycle.specs.Inside.Drops.{JetThird}
use Rattle.cycle.specs.declared.map.Masks.{Masks}
use Rattle.cycle.specs.declared.hall.Hall.{Hall}
use Rattle.cycle.proofs.Runs.{Run}
use Rattle.cycle.proofs.Close.{asked-third}

pub close-exactly : (masks : List Masks) (h : Hall) (ts : List TakenRecord) → Run masks h ts
    → (s i : ℕ) → s < string_count → i < manifold_count
    → (bit i (string_of h s).close ≡ true) ↔ JetThird (get_or (masks_of masks s) i 0) (λ j. jet_history s i j ts)
close-exactly masks h ts run s i l below = (to, back)
  where
    test : ℕ → Bool
    test j = bit j (get_or (masks_of masks s) i 0) && jets.asked_since_drop (jet_history s i j ts)

    to : bit i (string_of h s).close ≡ true → JetThird (get_or (masks_of masks s) i 0) (λ j. jet_history s i j ts)
    to e =
        let x = any_found jet_count test (sym (run.told.closes s i l below) ∙ e) in
        record {
          jet = x.0;
          in_word = x.1;
          InMask = and_left (bit x.0 (get_or (masks_of masks s) i 0)) (jets.asked_since_drop (jet_history s i x.0 ts)) x.2;
          third =
              (asked-third (jet_history s i x.0 ts) (run.rising s i x.0)).0
              (and_right (bit x.0 (get_or (masks_of masks s) i 0)) (jets.asked_since_drop (jet_history s i x.0 ts)) x.2);
        }

    back : JetThird (get_or (masks_of masks s) i 0) (λ j. jet_history s i j ts) → bit i (string_of h s).close ≡ true
    back w =
        run.told.closes s i l below
        ∙ any_at jet_count test w.jet w.in_word
        (and_both (bit w.jet (get_or (masks_of masks s) i 0)) (jets.asked_since_drop (jet_history s i w.jet ts)) w.InMask
        ((asked-third (jet_history s i w.jet ts) (run.rising s i w.jet)).1 w.third))
