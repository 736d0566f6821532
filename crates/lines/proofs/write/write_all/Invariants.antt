-- What was taken is no more than there is, the tries told are those made, and before the first the system has not been asked.
use Rattle.std.proofs.Common.{◌≡◌, ◌<◌, ◌≤◌, length, ◌⊎◌}
use Rattle.lines.specs.Lines.{unasked}
use Rattle.lines.proofs.write.write_all.Given as goal

abbrev pub invariant-loop-tries : goal.invariant-loop-tries
invariant-loop-tries g l = (l.moved.bytes ≤ length l.bytes) × (l.moved.tries ≡ l.tries) × ((l.tries ≡ 0) × (l.moved ≡ unasked) ⊎ (0 < length l.bytes))
