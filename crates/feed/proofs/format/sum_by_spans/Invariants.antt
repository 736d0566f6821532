-- `feed::format::sum_by_spans` meets its contract. The loop's invariant: the sum is that of all bytes but the spans that are left.
-- Assumes nothing.
use Rattle.std.proofs.Common.{◌≡◌}
use Rattle.feed.proofs.Records.Spans.{Spanning, long_span}
use Rattle.feed.proofs.format.sum_by_spans.Given as goal

abbrev pub invariant-loop-span : goal.invariant-loop-span
invariant-loop-span l = (l.span-iterator.size ≡ long_span) × Spanning l.s l.span-iterator.rest.now l.t
