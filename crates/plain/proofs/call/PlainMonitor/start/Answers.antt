-- `plain::call::PlainMonitor::start` meets its contract. Assumes nothing.
use Rattle.plain.specs.Call.{started_over}
use Rattle.plain.proofs.call.PlainMonitor.start.Goals as goal

pub returns : goal.returns
unfolding started_over
returns c = cc
