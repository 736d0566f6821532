-- `cycle::leak::leak_sweep` meets its contract. Assumes nothing.
use Rattle.std.proofs.Common.{◌≡◌}
use Rattle.cycle.proofs.MappedLeaks.{swept}
use Rattle.cycle.proofs.leak.leak_sweep.Given as goal

abbrev pub invariant-loop-k : goal.invariant-loop-k
invariant-loop-k l = l.w ≡ swept l.k l.t.words
