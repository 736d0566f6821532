-- What a report shows of a hall, as values. Assumes nothing.
use Rattle.cycle.specs.Size.{string_count}
use Rattle.cycle.specs.Each.{table}
use Rattle.cycle.specs.declared.hall.Hall.{Hall}
use Rattle.feed.specs.Report.{reported_fail, reported_close}
use Rattle.feed.specs.declared.report.Shown.{Shown}

unfoldable pub shown_of : Hall → Shown
shown_of h = record {
  n = h.n;
  strings = table string_count (λ s. record { fail = reported_fail h s; close = reported_close h s });
  banks = h.banks;
}
