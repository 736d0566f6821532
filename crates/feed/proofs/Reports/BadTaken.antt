-- Each record taken at a multiple of 25 says that a jet is bad exactly if its bytes do. Assumes nothing.
use Rattle.std.proofs.Common.{◌≡◌, ℕ, ◌%◌, true, false, ◌↔◌, List}
use Rattle.cycle.specs.Size.{string_count}
use Rattle.cycle.specs.Jets.{is_bad}
use Rattle.cycle.specs.Map.{FitMap, refused}
use Rattle.cycle.specs.declared.map.Masks.{Masks}
use Rattle.feed.specs.Heard.{Each, jet_heard, BadSaid}
use Rattle.feed.specs.Calls.{Made, taken_records}
use Rattle.feed.proofs.Records.BadHeard.{bad-heard}
use Rattle.feed.proofs.Reports.TakenSo.{each-so}
use Rattle.feed.proofs.Reports.KindsTaken.{kinds-marked}

module _ (masks : List Masks) (fit : FitMap masks) (accepted : refused string_count masks ≡ false) where
  pub bad-taken : (s i j : ℕ) (cs : List Made)
      → Each (λ t. t.n % 25 ≡ 0 → (is_bad (jet_heard s i j t) ≡ true) ↔ BadSaid s j t.bytes) (taken_records masks cs)
  bad-taken s i j cs = each-so (λ t marked z. bad-heard s i j t (marked.0 z)) (taken_records masks cs) (kinds-marked masks fit accepted cs)
