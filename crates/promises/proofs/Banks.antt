-- 02, order 10: "Night staff want to see how far the banks are apart." What the three differences of every report are, and what they say.
-- The words of each statement are defined in specs/ of `feed` and `cycle`; each proof is a citation. Assumes nothing.
use mathlib.Core.Path.{◌≡◌}
use mathlib.Core.Bool.{true, false}
use mathlib.Core.List.{List, ◌∷◌}
use mathlib.Core.Logic.{◌⊎◌}
use Prim.Native.Nat.{ℕ, ◌+◌, ◌*◌, ◌<◌, ◌≤◌}
use lib.IntN.{pos, ◌-ℤ◌}
use lib.ListN.{get_or}
use Rattle.bits.specs.Bit.{bit}
use Rattle.cycle.specs.Size.{string_count}
use Rattle.cycle.specs.Answers.{writes_report}
use Rattle.cycle.specs.Leak.{signed}
use Rattle.cycle.specs.Map.{FitMap, refused}
use Rattle.cycle.specs.Banks.{weighed, ToldByDifference}
use Rattle.cycle.specs.declared.map.Masks.{Masks}
use Rattle.cycle.specs.declared.values.Quantities.{Quantities}
use Rattle.cycle.proofs.Balance as balance
use Rattle.feed.specs.Bytes.{two}
use Rattle.feed.specs.Heard.{Heard, NoMajor, LastMajor}
use Rattle.feed.specs.Calls.{Made, answer_of, report_in, taken_records}
use Rattle.feed.proofs.Records.BanksHeard as heard
use Rattle.feed.proofs.Reports.DifferencesTell as reports

-- ---- From fresh over an accepted map, after any calls at all: module m in any report, also one that answers 1 to 4 or 7

module _ (masks : List Masks) (words : FitMap masks) (accepted : refused string_count masks ≡ false) (c : Made) (cs : List Made)
    (writes : writes_report (answer_of masks c cs) ≡ true) (m : ℕ) (module-there : m < 3) where
  -- "The balance rule now also gives fuel less oxidizer as a signed number": the two bytes, as a signed number, are fuel less oxidizer of
  -- the last taken major record, by arithmetic on its bytes ..
  pub difference-last : (r : List ℕ) → LastMajor r (taken_records masks (c ∷ cs))
      → signed (two (report_in masks c cs) (34 + 2 * m)) ≡ pos (two r (605 + 4 * m)) -ℤ pos (two r (607 + 4 * m))
  difference-last = reports.difference-last masks words accepted c cs writes m module-there

  -- .. and 0 if there is none: "At fresh they are 0."
  pub difference-none : NoMajor (taken_records masks (c ∷ cs)) → signed (two (report_in masks c cs) (34 + 2 * m)) ≡ pos 0
  difference-none = reports.difference-none masks words accepted c cs writes m module-there

  -- "-1,000 to 1,000"; the module's bits of the balance byte say that it is out of balance if and only if the difference's size is above
  -- 16, and that the oxidizer is the lesser if and only if it is positive
  pub difference-tells : ToldByDifference (bit m (get_or (report_in masks c cs) 27 0)) (bit (4 + m) (get_or (report_in masks c cs) 27 0))
      (signed (two (report_in masks c cs) (34 + 2 * m)))
  difference-tells = reports.difference-tells masks words accepted c cs writes m module-there

-- there is a last major record or none, so that one of the first two applies
pub last-or-none : (ts : List Heard) → NoMajor ts ⊎ ((r : List ℕ) × LastMajor r ts)
last-or-none = heard.last-or-none

-- ---- The same of a module's rule alone, of quantities of at most 1,000

pub quantities-tell : (q : Quantities) → q.fuel ≤ 1000 → q.oxidizer ≤ 1000
    → ToldByDifference (weighed q).unbalanced (weighed q).oxidizer (signed (weighed q).difference)
quantities-tell = balance.quantities-tell
