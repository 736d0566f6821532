-- `feed::report::write_report` meets its contract. Assumes nothing.
use Rattle.std.proofs.Common.{ℕ, List, ◌++◌, drop, ap, ◌∙◌}
use Rattle.feed.specs.Size.{report_length}
use Rattle.feed.specs.Report.{report_shown}
use Rattle.feed.proofs.Reports.ReportWritten.{shown-same}
use Rattle.feed.proofs.report.write_report.Goals as goal

pub returns : goal.returns
returns c =
    let a = c.args in
    c.write_shown.ensures
    ∙ ap (λ (r : List ℕ). r ++ drop report_length a.out.now)
    (ap (report_shown a.answer) c.shown_of.ensures ∙ shown-same a.answer a.h)
