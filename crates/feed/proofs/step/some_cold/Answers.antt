-- `feed::step::some_cold` meets its contract. Assumes nothing.
use Rattle.feed.proofs.step.some_cold.Goals as goal

pub returns : goal.returns
returns c = c.cold_among.ensures
