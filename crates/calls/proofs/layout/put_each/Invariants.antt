-- `calls::layout::put_each` meets its contract. Assumes nothing.
use Rattle.feed.proofs.Reports.PutEach.{FirstPut}
use Rattle.calls.proofs.layout.put_each.Given as goal

abbrev pub invariant-loop-i : goal.invariant-loop-i
invariant-loop-i g l = FirstPut g.P.Part.bytes l.each g.P.Part.LENGTH l.initial.b l.b l.i
