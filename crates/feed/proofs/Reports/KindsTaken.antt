-- Each record taken at a multiple of 25, and no other, is a major one by its mark; so it carries out a drop exactly if its bytes say so.
-- Assumes nothing.
use Rattle.std.proofs.Common.{◌≡◌, ℕ, true, false, ◌↔◌, List}
use Rattle.cycle.specs.Size.{string_count}
use Rattle.cycle.specs.Jets.{drops_at}
use Rattle.cycle.specs.Map.{FitMap, refused}
use Rattle.cycle.specs.declared.map.Masks.{Masks}
use Rattle.feed.specs.Heard.{Each, jet_heard, DropCarriedOut}
use Rattle.feed.specs.Calls.{Made, taken_records}
use Rattle.feed.proofs.Records.DropHeard.{KindMarked, marked_by, drop-heard}
use Rattle.feed.proofs.Reports.TakenSo.{each-so, taken-so}

module _ (masks : List Masks) (fit : FitMap masks) (accepted : refused string_count masks ≡ false) where
  pub kinds-marked : (cs : List Made) → Each KindMarked (taken_records masks cs)
  kinds-marked = taken-so masks fit accepted KindMarked (λ h room r same taken. marked_by _ r taken.3)

  pub drop-taken : (s i j : ℕ) (cs : List Made)
      → Each (λ t. (drops_at (jet_heard s i j t) ≡ true) ↔ DropCarriedOut s i t.bytes) (taken_records masks cs)
  drop-taken s i j cs = each-so (λ t marked. drop-heard s i j t marked) (taken_records masks cs) (kinds-marked cs)
