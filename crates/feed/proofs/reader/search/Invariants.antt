-- `feed::reader::search` meets its contract. The loop's invariant: the store is as it was, and what is held and still to be read gives what
-- was to be read at the start. Assumes nothing.
use Rattle.std.proofs.Common.{◌≡◌, ◌-◌, length}
use Rattle.feed.specs.Inside.Finding.{reads_on}
use Rattle.feed.proofs.Reading.Passing.{Passing}
use Rattle.feed.proofs.reader.search.Given as goal

abbrev pub invariant-loop-at : goal.invariant-loop-at
invariant-loop-at l = (l.b ≡ l.initial.b) × Passing (reads_on l.piece l.from l.taken) l.piece l.at l.high

abbrev pub decreases-loop-at : goal.decreases-loop-at
decreases-loop-at l = length l.piece - l.at
