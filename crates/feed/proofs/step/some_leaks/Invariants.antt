-- `feed::step::some_leaks` meets its contract. Assumes nothing.
use Rattle.std.proofs.Common.{◌≡◌}
use Rattle.bits.specs.Bit.{any}
use Rattle.feed.specs.Inside.Calm.{leak_at}
use Rattle.feed.proofs.step.some_leaks.Given as goal

abbrev pub invariant-loop-k : goal.invariant-loop-k
invariant-loop-k l = l.found ≡ any l.k (leak_at l.s l.mapped)
