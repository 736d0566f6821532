-- 02, order 9: "Two tenants on one string. We let halves of a string to different teams." What a team sees of its manifold does not depend
-- on its neighbours. The words of each statement are defined in specs/ of `feed` and `cycle`; each proof is a citation. Assumes nothing.
use mathlib.Core.Path.{◌≡◌, refl}
use mathlib.Core.Bool.{true, false}
use mathlib.Core.List.{List, ◌∷◌, ◌++◌}
use Prim.Native.Nat.{ℕ, ◌<◌}
use lib.ListN.{length, get_or}
use Rattle.cycle.specs.Size.{string_count}
use Rattle.cycle.specs.Answers.{is_taken, writes_report}
use Rattle.cycle.specs.Map.{masks_of, InMask, FitMap, refused}
use Rattle.cycle.specs.Records.{Record}
use Rattle.cycle.specs.Hall.{string_of, stepped}
use Rattle.cycle.specs.Views.{jet_of, jet_record}
use Rattle.cycle.specs.Proper.{ProperHall}
use Rattle.cycle.specs.Tenants.{SameValues, SameManifold}
use Rattle.cycle.specs.declared.hall.Hall.{Hall}
use Rattle.cycle.specs.declared.map.Masks.{Masks}
use Rattle.cycle.proofs.Tenants as steps
use Rattle.feed.specs.Calls.{Made, monitor_after, answer_of, report_in, taken_records}
use Rattle.feed.specs.Tenants.{OneForOne, SameTaken, SameInBytes, SameShown}
use Rattle.feed.proofs.Reports.Tenants as runs

-- ---- From fresh over an accepted map: manifold i of string s, in two runs of any calls

module _ (masks : List Masks) (words : FitMap masks) (accepted : refused string_count masks ≡ false) (s i : ℕ) (string : s < 4)
    (manifold : i < 8) where
  abbrev mask : ℕ
  mask = get_or (masks_of masks s) i 0

  -- "Take two runs from fresh over the same map whose records are taken in the same order with the same cycle numbers and kinds, and which
  -- agree on the string's path bit and, for one manifold, on its valve and drop bits and on its jets' command, pressure, driver,
  -- temperature and request bits. Then after every record that manifold's fail bits and close bit agree, whatever else differs." In any
  -- report of the one and any of the other with equally many records taken up to it, itself included; also in reports that answer 1 to 4
  -- or 7. Other manifolds and strings, jets in no mask, quantities, cuts, records refused and bytes lost are free in each run.
  -- "The report's other bytes and the quantities are outside this claim": `SameShown` names two places of a report. "With order 4 a
  -- neighbour's bad request can get a record refused; that is why 'taken' is a premise": `taken_records`.
  pub tenants-agree : (c d : Made) (cs ds later after : List Made)
      → OneForOne (SameTaken mask s i) (taken_records masks (later ++ (c ∷ cs))) (taken_records masks (after ++ (d ∷ ds)))
      → length (taken_records masks (c ∷ cs)) ≡ length (taken_records masks (d ∷ ds))
      → writes_report (answer_of masks c cs) ≡ true → writes_report (answer_of masks d ds) ≡ true
      → SameShown mask s i (report_in masks c cs) (report_in masks d ds)
  tenants-agree c d cs ds later after same long =
      runs.reports-alone masks masks words accepted words accepted s i string manifold refl c d cs ds
      (runs.oldest-agree (SameTaken mask s i) masks masks later (c ∷ cs) after (d ∷ ds) long same)

  -- what is taken after the two reports does not matter
  pub tenants-agree-so-far : (c d : Made) (cs ds : List Made)
      → OneForOne (SameTaken mask s i) (taken_records masks (c ∷ cs)) (taken_records masks (d ∷ ds))
      → writes_report (answer_of masks c cs) ≡ true → writes_report (answer_of masks d ds) ≡ true
      → SameShown mask s i (report_in masks c cs) (report_in masks d ds)
  tenants-agree-so-far = runs.reports-alone masks masks words accepted words accepted s i string manifold refl

  -- nor do the neighbours' masks: the other run may be over any accepted map that has the manifold's own mask
  module _ (others : List Masks) (other_words : FitMap others) (other_accepted : refused string_count others ≡ false)
      (own : mask ≡ get_or (masks_of others s) i 0) where
    pub tenants-any-map : (c d : Made) (cs ds : List Made)
        → OneForOne (SameTaken mask s i) (taken_records masks (c ∷ cs)) (taken_records others (d ∷ ds))
        → writes_report (answer_of masks c cs) ≡ true → writes_report (answer_of others d ds) ≡ true
        → SameShown mask s i (report_in masks c cs) (report_in others d ds)
    tenants-any-map = runs.reports-alone masks others words accepted other_words other_accepted s i string manifold own

    -- and all that is remembered of the manifold's jets is the same, the valve, the slots, the overrides and the good copy too
    pub tenants-remembered : (cs ds : List Made) → OneForOne (SameTaken mask s i) (taken_records masks cs) (taken_records others ds)
        → SameManifold s i (monitor_after masks cs).hall (monitor_after others ds).hall
    tenants-remembered = runs.manifold-remembered masks others words accepted other_words other_accepted s i string manifold own

-- "the same cycle numbers" can be read off the bytes: where the wire cycles of the records taken are the same, the cycle numbers that they
-- led to are
pub agree-in-bytes : (mask s i : ℕ) (masks others : List Masks) (cs ds : List Made)
    → OneForOne (SameInBytes mask s i) (taken_records masks cs) (taken_records others ds)
    → OneForOne (SameTaken mask s i) (taken_records masks cs) (taken_records others ds)
agree-in-bytes = runs.agree-in-bytes

-- ---- One step of any two proper halls, whether a run reaches them or not, at the same cycle number: each takes its record, and both come
-- to the same number

module _ (h k : Hall) (proper : ProperHall h) (also_proper : ProperHall k) (s i : ℕ) (string : s < 4) (manifold : i < 8) where
  -- a jet's rule reads what the record says of the jet, and what is remembered of it
  pub jet-alone : h.n ≡ k.n → (a b : Record) → (stepped a h).hall.n ≡ (stepped b k).hall.n
      → is_taken (stepped a h).answer ≡ true → is_taken (stepped b k).answer ≡ true
      → (j : ℕ) → InMask (masks_of h.masks s) i j → InMask (masks_of k.masks s) i j
      → jet_record 0 s i j a ≡ jet_record 0 s i j b → jet_of i j (string_of h s) ≡ jet_of i j (string_of k s)
      → jet_of i j (string_of (stepped a h).hall s) ≡ jet_of i j (string_of (stepped b k).hall s)
  jet-alone = steps.jet-alone h k proper also_proper s i string manifold

  -- and a manifold, its close bit too, nothing but what the records say of it and of its jets
  pub manifold-alone : SameManifold s i h k → (a b : Record) → SameValues h.masks s i a b
      → is_taken (stepped a h).answer ≡ true → is_taken (stepped b k).answer ≡ true
      → (stepped a h).hall.n ≡ (stepped b k).hall.n → SameManifold s i (stepped a h).hall (stepped b k).hall
  manifold-alone = steps.manifold-alone h k proper also_proper s i string manifold
