-- `feed::calm::all_still` meets its contract. Assumes nothing.
use Rattle.std.proofs.Common.{◌≡◌, ℕ, ◌<◌}
use Rattle.bits.specs.Bit.{every}
use Rattle.feed.proofs.Calls.Calms.{quiet_at, WordsAt}
use Rattle.feed.proofs.Calls.CalmMajors.{still_at}
use Rattle.feed.proofs.calm.all_still.Given as goal

abbrev pub invariant-loop-k : goal.invariant-loop-k
invariant-loop-k l =
    (l.quiet ≡ every l.k (quiet_at l.s l.calm.turned l.hall.strings))
    × (l.still ≡ every l.k (still_at l.s l.calm.jets l.hall.strings))
    × ((j : ℕ) → j < l.k → WordsAt l.s j)
