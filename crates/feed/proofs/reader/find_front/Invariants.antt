-- `feed::reader::find_front` meets its contract. The loop's invariant: the bytes from `at` on settle to what all bytes settle to.
-- Assumes nothing.
use Rattle.std.proofs.Common.{◌≡◌, drop}
use Rattle.feed.specs.Reader.{settle}
use Rattle.feed.proofs.reader.find_front.Given as goal

abbrev pub invariant-loop-at : goal.invariant-loop-at
invariant-loop-at l = settle (drop l.at l.s) ≡ settle l.s
