-- `feed::format::good` meets its contract. Assumes nothing.
use Rattle.std.proofs.Common.{◌∙◌}
use Rattle.feed.specs.Format.{row_of}
use Rattle.feed.proofs.format.good.Goals as goal

pub good_minor-requires : goal.good_minor-requires
unfolding row_of
good_minor-requires c = rw c.in-Minor.is at c.requires

pub good_major-requires : goal.good_major-requires
unfolding row_of
good_major-requires c = rw c.in-Major.is at c.requires

pub returns-in-Minor : goal.returns-in-Minor
unfolding row_of
returns-in-Minor c = c.good_minor.ensures ∙ rw c.in-Minor.is

pub returns-in-Major : goal.returns-in-Major
unfolding row_of
returns-in-Major c = c.good_major.ensures ∙ rw c.in-Major.is
