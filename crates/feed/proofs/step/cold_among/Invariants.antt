-- `feed::step::cold_among` meets its contract. Assumes nothing.
use Rattle.std.proofs.Common.{◌≡◌, ◌+◌, ◌*◌, ◌||◌}
use Rattle.bits.specs.Bit.{any}
use Rattle.cycle.specs.Leak.{cold}
use Rattle.feed.specs.Size.{temperature_length}
use Rattle.feed.specs.Bytes.{two}
use Rattle.feed.proofs.step.cold_among.Given as goal

abbrev pub invariant-loop-k : goal.invariant-loop-k
invariant-loop-k l =
    (l.small || l.below_zero) ≡ any l.k (λ j. cold (two l.s (l.i + temperature_length * j)))
