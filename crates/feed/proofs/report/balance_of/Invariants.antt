-- `feed::report::balance_of` meets its contract. Assumes nothing.
use Rattle.std.proofs.Common.{◌≡◌}
use Rattle.feed.specs.Report.{balance_of}
use Rattle.feed.proofs.report.balance_of.Given as goal

abbrev pub invariant-loop-m : goal.invariant-loop-m
invariant-loop-m l = l.w ≡ balance_of l.m l.banks
