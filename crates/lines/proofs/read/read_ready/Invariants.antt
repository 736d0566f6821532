-- The buffer keeps its length and is not empty, nothing has come, and the tries told are those made.
use Rattle.std.proofs.Common.{◌≡◌, ◌<◌, length}
use Rattle.lines.proofs.read.read_ready.Given as goal

abbrev pub invariant-loop-tries : goal.invariant-loop-tries
invariant-loop-tries g l = (length l.buf ≡ length l.initial.buf) × (0 < length l.buf) × (l.moved.bytes ≡ 0) × (l.moved.tries ≡ l.tries)
