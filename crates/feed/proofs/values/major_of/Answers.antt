-- `feed::values::major_of` meets its contract. Assumes nothing.
use Rattle.feed.specs.Values.{major_of}
use Rattle.feed.proofs.values.major_of.Goals as goal

pub returns : goal.returns
unfolding major_of
returns c = cc
