-- `feed::format::sum` meets its contract. The loop's invariant: after i bytes the sum is that of the first i. Assumes nothing.
use Rattle.std.proofs.Common.{◌≡◌, take}
use Rattle.feed.specs.Format.{sum_of}
use Rattle.feed.proofs.format.sum.Given as goal

abbrev pub invariant-loop-byte : goal.invariant-loop-byte
invariant-loop-byte l = l.t ≡ sum_of (take l.byte-index l.s)
