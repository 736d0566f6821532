-- `feed::report::put_strings` meets its contract. Assumes nothing.
use Rattle.cycle.specs.Size.{string_count}
use Rattle.feed.specs.Size.{strings_from, string_part}
use Rattle.feed.specs.Report.{fail_shown, close_shown, string_bytes}
use Rattle.feed.proofs.Reports.Written.{Putting}
use Rattle.feed.proofs.report.put_strings.Given as goal

abbrev pub invariant-loop-s : goal.invariant-loop-s
invariant-loop-s l = Putting l.initial.out strings_from string_part string_count (λ k. string_bytes (fail_shown l.strings k) (close_shown l.strings k))
    l.out l.s
