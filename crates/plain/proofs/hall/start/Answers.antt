-- `plain::hall::start` meets its contract. Assumes nothing.
use Rattle.plain.proofs.Halls.{refused-start, taken_start}
use Rattle.plain.proofs.hall.start.Goals as goal

pub returns-then-refused : goal.returns-then-refused
returns-then-refused c =
    refused-start _ c.refused.ensures c.if-refused.true c.none.ensures c.fresh.ensures

pub returns-else-refused : goal.returns-else-refused
returns-else-refused c = taken_start _ c.refused.ensures c.if-refused.false c.fresh-else-refused.ensures
