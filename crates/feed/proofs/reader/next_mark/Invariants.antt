-- `feed::reader::next_mark` meets its contract. The invariant of both loops: the next mark from `at` on is the next from `from` on.
-- Assumes nothing.
use Rattle.std.proofs.Common.{◌-◌, length}
use Rattle.feed.proofs.Reading.Noise.{NextMark}
use Rattle.feed.proofs.reader.next_mark.Given as goal

abbrev pub invariant-loop-at : goal.invariant-loop-at
invariant-loop-at l = NextMark l.piece l.from l.at

abbrev pub decreases-loop-at : goal.decreases-loop-at
decreases-loop-at l = length l.piece - l.at

abbrev pub invariant-loop-at-2 : goal.invariant-loop-at-2
invariant-loop-at-2 l = NextMark l.piece l.from l.at

abbrev pub decreases-loop-at-2 : goal.decreases-loop-at-2
decreases-loop-at-2 l = length l.piece - l.at
