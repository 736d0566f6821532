-- `feed::report::put_report` meets its contract. Assumes nothing.
use Rattle.std.proofs.Common.{ℕ, List, ap, ◌∙◌}
use Rattle.feed.specs.Report.{report_shown, into_outbox}
use Rattle.feed.proofs.Reports.ReportWritten.{shown-same}
use Rattle.feed.proofs.report.put_report.Goals as goal

pub returns : goal.returns
returns c =
    let a = c.args in
    let e = ap (report_shown a.answer) c.shown_of.ensures ∙ shown-same a.answer a.h in
    (c.put_shown.ensures.0, c.put_shown.ensures.1 ∙ ap (λ (r : List ℕ). into_outbox r a.out.now) e)
