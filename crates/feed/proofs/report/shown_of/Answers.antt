-- `feed::report::shown_of` meets its contract. Assumes nothing.
use Rattle.std.proofs.Common.{List, ap, rules}
use Rattle.cycle.specs.Size.{string_count}
use Rattle.feed.specs.Report.{reported_fail, reported_close}
use Rattle.feed.specs.Inside.Showing.{shown_of}
use Rattle.feed.specs.declared.report.StringShown.{StringShown}
use Rattle.feed.proofs.Records.Tables.{table-made}
use Rattle.feed.proofs.report.shown_of.Goals as goal

pub returns : goal.returns
unfolding shown_of
returns c =
    let h = c.args.h in
    ap (λ (x : List StringShown). record { n = h.n; strings = x; banks = h.banks })
    (table-made _ (λ s. record { fail = reported_fail h s; close = reported_close h s }) _ (λ i x q k. search rules) _ string_count c.from_fn.ensures.items)
