-- What the loop keeps: there are a feed and calls that hand in what has been read, and the monitor is the plain one after them. Assumes nothing.
use Rattle.std.proofs.Common.{◌≡◌, ◌-◌, ◌≤◌, length, take, drop}
use Rattle.plainwatch.specs.Watched.{Watched}
use Rattle.plainwatch.proofs.watched.Given as goal

abbrev pub invariant-loop-turns : goal.invariant-loop-turns
invariant-loop-turns g l =
    (length l.input ≡ length l.initial.input) × (length l.out ≡ length l.initial.out) × (l.at ≤ l.n) × (l.n ≤ length l.input)
    × Watched l.start l.m l.turns l.fed l.told (take (l.n - l.at) (drop l.at l.input)) × (l.made ≡ l.turns)
