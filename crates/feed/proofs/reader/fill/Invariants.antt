-- `feed::reader::fill` meets its contract. The loop's invariant: filling the store on from what it holds, with the rest of the piece, ends
-- as filling it from what was held at the start. The measure is what is left of the piece. Assumes nothing.
use Rattle.std.proofs.Common.{◌-◌, length, take, drop}
use Rattle.feed.specs.Inside.Finding.{fills}
use Rattle.feed.proofs.Reading.Turns.{Turn}
use Rattle.feed.proofs.reader.fill.Given as goal

abbrev pub invariant-loop-b : goal.invariant-loop-b
invariant-loop-b l = Turn (fills 0 (take l.count l.initial.b) (drop l.from l.piece)) l.piece l.from l.b l.n l.used

abbrev pub decreases-loop-b : goal.decreases-loop-b
decreases-loop-b l = length l.piece - l.used
