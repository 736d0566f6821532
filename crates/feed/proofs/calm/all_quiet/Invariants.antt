-- `feed::calm::all_quiet` meets its contract. Assumes nothing.
use Rattle.std.proofs.Common.{◌≡◌, ℕ, ◌<◌}
use Rattle.bits.specs.Bit.{every}
use Rattle.feed.proofs.Calls.Calms.{quiet_at, WordsAt}
use Rattle.feed.proofs.calm.all_quiet.Given as goal

abbrev pub invariant-loop-k : goal.invariant-loop-k
invariant-loop-k l =
    (l.found ≡ every l.k (quiet_at l.s l.turned l.hall.strings)) × ((j : ℕ) → j < l.k → WordsAt l.s j)
