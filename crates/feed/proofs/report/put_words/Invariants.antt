-- `feed::report::put_words` meets its contract. Assumes nothing.
use Rattle.std.proofs.Common.{slice_index}
use Rattle.cycle.specs.Size.{module_count}
use Rattle.feed.specs.Size.{quantity_length}
use Rattle.feed.specs.Bytes.{in_two}
use Rattle.feed.proofs.Reports.Written.{Putting}
use Rattle.feed.proofs.report.put_words.Given as goal

abbrev pub invariant-loop-m : goal.invariant-loop-m
invariant-loop-m l = Putting l.initial.out l.from quantity_length module_count (λ m. in_two (slice_index l.words m)) l.out l.m
