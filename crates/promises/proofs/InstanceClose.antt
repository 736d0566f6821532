-- The instance of the close theorems: in both feeds the close bit of manifold 0 of string 0 is in the report of record 75, and in no
-- report before it that answers 0; by the theorems record 75 is the earliest major cycle in which one of the manifold's jets has been
-- bad three times as demand 3 words it. Assumes nothing.
use mathlib.Core.Path.{◌≡◌, refl, sym, ap, ◌∙◌}
use mathlib.Core.Bool.{Bool, true, false, ◌&&◌}
use mathlib.Core.List.{List, [], ◌∷◌}
use mathlib.Core.Logic.{inr}
use Prim.Native.Nat.{ℕ, ◌+◌, ◌*◌, ◌<◌}
use native.Mathlib.Bridge.{le_by_compare, IsLe}
use borrow.Author.Tests.{ltb-true}
use lib.Dec.{ltb}
use lib.ListN.{get_or, take}
use Rattle.bits.specs.Bit.{bit, every}
use Rattle.bits.proofs.Yes.{not-both, and_both}
use Rattle.bits.proofs.Every.{every-at}
use Rattle.cycle.specs.Size.{string_count, manifold_count}
use Rattle.cycle.specs.Answers.{writes_report}
use Rattle.cycle.specs.Map.{masks_of, FitMap}
use Rattle.cycle.specs.declared.map.Masks.{Masks}
use Rattle.feed.specs.Size.{report_length}
use Rattle.feed.specs.Call.{Result}
use Rattle.feed.specs.Calls.{answer_of, taken_records}
use Rattle.feed.specs.CloseShown.{Shows, NotShownSince, Earliest, ThirdSince}
use Rattle.feed.proofs.Reports.CloseFirst.{close-shown, close_never, close-first}
use Rattle.promises.specs.NightRecords.{night_map}
use Rattle.promises.specs.Instance.{major_bytes}
use Rattle.promises.specs.InstanceCalls.{handing, Exchanged, made_of, Given, feed_to50, longer_to50, Appears}
use Rattle.promises.proofs.InstanceSteps.{night-accepted}
use Rattle.promises.proofs.InstanceGiven.{feed-given, longer-given}

-- ---- the map

-- a map whose masks are words, tested one by one
pub fits_by : (masks : List Masks) → every string_count (λ s. every manifold_count (λ i. ltb (get_or (masks_of masks s) i 0) 0x100000000)) ≡ true
    → FitMap masks
fits_by masks e s i l b =
    let word : ℕ → ℕ → Bool = λ s i. ltb (get_or (masks_of masks s) i 0) 0x100000000 in
    ltb-true (get_or (masks_of masks s) i 0) 0x100000000
    (every-at manifold_count (word s) (every-at string_count (λ s. every manifold_count (word s)) e s l) i b)

pub night-fits : FitMap night_map
unfolding every
night-fits = fits_by night_map refl

-- ---- the reports

-- in what a call gave back: is a report written, and the close bit of manifold 0 of string 0
abbrev written_in : Result → Bool
written_in r = writes_report r.outcome.answer

abbrev pub close_in : Result → Bool
close_in r = bit 0 (get_or (take report_length r.outbox) (7 + 5 * 0 + 4) 0)

abbrev Unseen : List Exchanged → Type 0
Unseen [] = Unit {0}
Unseen (x ∷ xs) = ((written_in x.result && close_in x.result) ≡ false) × Unseen xs

unseen-before : (xs : List Exchanged) → Given xs → Unseen xs → NotShownSince night_map 0 0 (made_of xs)
unseen-before [] g u = tt
unseen-before (x ∷ xs) g u = (λ a s. by a s, inr (unseen-before xs g.1 u.1))
  where
    by : writes_report (answer_of night_map (handing x.piece) (made_of xs)) ≡ true → Shows night_map 0 0 (handing x.piece) (made_of xs) → ⊥
    by a s =
        not-both (written_in x.result && close_in x.result)
        (and_both (written_in x.result) (close_in x.result) (ap written_in (sym g.0) ∙ a) (ap close_in (sym g.0) ∙ s))
        u.0

pub feed-close : Appears feed_to50
unfolding bit
feed-close =
    let g = feed-given.0.1 in
    record {
      answer = ap (λ (r : Result). r.outcome.answer) g.0;
      shown = ap close_in g.0;
      not_before = unseen-before feed_to50 g.1 (refl, (refl, (refl, (refl, tt))));
    }

pub longer-close : Appears longer_to50
unfolding bit
longer-close =
    let g = longer-given.0.1 in
    record {
      answer = ap (λ (r : Result). r.outcome.answer) g.0;
      shown = ap close_in g.0;
      not_before = unseen-before longer_to50 g.1 (refl, (refl, (refl, (refl, (refl, (refl, tt))))));
    }

-- ---- the theorems' instances

pub first-string : 0 < string_count
unfolding IsLe
first-string = le_by_compare 1 4 tt

pub first-manifold : 0 < manifold_count
unfolding IsLe
first-manifold = le_by_compare 1 8 tt

earliest-by : (xs : List Exchanged) → Appears xs
    → Earliest 0x0000000F 0 0 (taken_records night_map (handing (major_bytes 75) ∷ made_of xs))
earliest-by xs x =
    (close-first night_map night-fits night-accepted 0 0 first-string first-manifold (handing (major_bytes 75)) (made_of xs) x.answer).0
    (x.shown, inr x.not_before)

pub feed-earliest : Earliest 0x0000000F 0 0 (taken_records night_map (handing (major_bytes 75) ∷ made_of feed_to50))
feed-earliest = earliest-by feed_to50 feed-close

pub longer-earliest : Earliest 0x0000000F 0 0 (taken_records night_map (handing (major_bytes 75) ∷ made_of longer_to50))
longer-earliest = earliest-by longer_to50 longer-close

-- one of the manifold's jets has been bad so up to record 75
pub third-by-75 : ThirdSince 0x0000000F 0 0 (taken_records night_map (handing (major_bytes 75) ∷ made_of feed_to50))
third-by-75 =
    (close-shown night_map night-fits night-accepted 0 0 first-string first-manifold (handing (major_bytes 75)) (made_of feed_to50)
    (ap writes_report feed-close.answer)).0 feed-close.shown

-- and none up to record 50
pub none-by-50 : ThirdSince 0x0000000F 0 0 (taken_records night_map (made_of feed_to50)) → ⊥
none-by-50 = (close_never night_map night-fits night-accepted 0 0 first-string first-manifold (made_of feed_to50)).0 feed-close.not_before
