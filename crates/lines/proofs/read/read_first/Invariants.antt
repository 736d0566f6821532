-- What is there fits, the buffer keeps its length, and where none are wanted nothing has been asked.
use Rattle.std.proofs.Common.{◌≡◌, ◌-◌, ◌≤◌, length}
use Rattle.lines.specs.Lines.{unasked}
use Rattle.lines.proofs.read.read_first.Given as goal

abbrev pub invariant-loop-moved : goal.invariant-loop-moved
invariant-loop-moved g l =
    (l.moved.bytes ≤ length l.buf) × (length l.buf ≡ length l.initial.buf) × (l.wanted ≡ 0 → l.moved ≡ unasked)

abbrev pub decreases-loop-moved : goal.decreases-loop-moved
decreases-loop-moved g l = l.wanted - l.moved.bytes
