-- `calls::layout::put_each` meets its contract. Assumes nothing.
use Rattle.std.proofs.Common.{rules}
use Rattle.feed.proofs.Reports.PutEach.{first-next}
use Rattle.calls.proofs.layout.put_each.Goals as goal

pub loop-i-preserved : goal.loop-i-preserved
loop-i-preserved g c =
    rw (c.LENGTH.ensures, c.LENGTH-in-loop-i.ensures)
    (first-next _ _ _ _ _ _ _ _ c.loop-i.invariant c.loop-i-test.true c.index-each-i.is c.put.ensures (search rules))
