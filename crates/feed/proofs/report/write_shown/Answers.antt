-- `feed::report::write_shown` meets its contract. Assumes nothing.
use Rattle.std.proofs.Common.{refl}
use borrow.Rule.Slice.PartMut.{put_mid}
use Rattle.feed.specs.Size.{strings_from}
use Rattle.feed.specs.Report.{fail_shown, close_shown}
use Rattle.feed.proofs.Reports.ReportWritten.{report-written}
use Rattle.feed.proofs.report.write_shown.Goals as goal

pub returns : goal.returns
returns c =
    let a = c.args in
    report-written a.answer a.x.n (fail_shown a.x.strings) (close_shown a.x.strings) a.x.banks
    c.number.result a.out.now c.put_head.new.s
    (put_mid 0 strings_from a.out.now c.put_head.new.s) c.put_strings.new.out c.put_banks.new.out
    c.number.ensures c.put_head.ensures refl c.put_strings.ensures c.put_banks.ensures
