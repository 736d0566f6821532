-- `feed::reader::held_count` meets its contract. Assumes nothing.
use Rattle.std.proofs.Common.{le-ltb, lt-ltb}
use Rattle.feed.proofs.reader.held_count.Goals as goal

pub returns-then-count-gt-MOST_HELD : goal.returns-then-count-gt-MOST_HELD
returns-then-count-gt-MOST_HELD c = simp (lt-ltb _ _ c.if-count-gt-MOST_HELD.true)

pub returns-else-count-gt-MOST_HELD : goal.returns-else-count-gt-MOST_HELD
returns-else-count-gt-MOST_HELD c = simp (le-ltb _ _ c.if-count-gt-MOST_HELD.false)
