-- `feed::format::quantities_right` meets its contract. Assumes nothing.
use Rattle.std.proofs.Common.{◌≡◌, ◌+◌, ◌*◌}
use Rattle.bits.specs.Bit.{every}
use Rattle.feed.specs.Size.{quantities_from, quantities_length}
use Rattle.feed.specs.Format.{two_right}
use Rattle.feed.proofs.format.quantities_right.Given as goal

abbrev pub invariant-loop-m : goal.invariant-loop-m
invariant-loop-m l = l.right ≡ every l.m (λ i. two_right l.s (quantities_from + quantities_length * i))
