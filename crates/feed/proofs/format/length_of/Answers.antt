-- `feed::format::length_of` meets its contract. Assumes nothing.
use Rattle.feed.specs.Format.{row_of}
use Rattle.feed.proofs.format.length_of.Goals as goal

pub returns-in-Minor : goal.returns-in-Minor
unfolding row_of
returns-in-Minor c = simp c.in-Minor.is

pub returns-in-Major : goal.returns-in-Major
unfolding row_of
returns-in-Major c = simp c.in-Major.is
