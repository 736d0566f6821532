-- 02, order 10, of every report from fresh: the difference is fuel less oxidizer of the last taken major record, 0 if there is none; and
-- what it says of the two bits of its module. Assumes nothing.
use Rattle.std.proofs.Common.{◌≡◌, ℕ, ◌+◌, ◌*◌, ◌<◌, true, false, List, ◌∷◌, get_or, pos, sym, ◌∙◌}
use Rattle.bits.specs.Bit.{bit}
use Rattle.cycle.specs.Size.{string_count}
use Rattle.cycle.specs.Answers.{writes_report}
use Rattle.cycle.specs.Leak.{signed}
use Rattle.cycle.specs.Banks.{ToldByDifference}
use Rattle.cycle.specs.Map.{FitMap, refused}
use Rattle.cycle.specs.declared.map.Masks.{Masks}
use Rattle.feed.specs.Bytes.{two}
use Rattle.feed.specs.Heard.{Heard, difference_said, NoMajor, LastMajor}
use Rattle.feed.specs.Calls.{Made, answer_of, report_in, taken_records}
use Rattle.feed.specs.Tells.{Tells}
use Rattle.feed.proofs.Records.BanksHeard.{bank-known, none_said, last-said}
use Rattle.feed.proofs.Calls.CallRuns.{calls-kept}
use Rattle.feed.proofs.Reports.ReportsTell.{reports-tell}

module _ (masks : List Masks) (fit : FitMap masks) (accepted : refused string_count masks ≡ false) (c : Made) (cs : List Made)
    (writes : writes_report (answer_of masks c cs) ≡ true) (m : ℕ) (module-there : m < 3) where
  abbrev report : List ℕ
  report = report_in masks c cs

  abbrev taken : List Heard
  taken = taken_records masks (c ∷ cs)

  tells : Tells masks (answer_of masks c cs) taken report
  tells = reports-tell masks fit accepted c cs writes

  pub difference-last : (r : List ℕ) → LastMajor r taken → signed (two report (34 + 2 * m)) ≡ difference_said m r
  difference-last r last = tells.difference m module-there ∙ last-said m r taken last

  pub difference-none : NoMajor taken → signed (two report (34 + 2 * m)) ≡ pos 0
  difference-none none = tells.difference m module-there ∙ none_said m taken none

  pub difference-tells : ToldByDifference (bit m (get_or report 27 0)) (bit (4 + m) (get_or report 27 0)) (signed (two report (34 + 2 * m)))
  difference-tells =
      let known = bank-known m module-there taken (calls-kept masks fit accepted (c ∷ cs)).whole in
      rw (tells.unbalanced m module-there, tells.oxidizer m module-there, tells.difference m module-there ∙ sym known.signedly)
      known.flags
