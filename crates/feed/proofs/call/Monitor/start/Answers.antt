-- `feed::call::Monitor::start` meets its contract. Assumes nothing.
use Rattle.std.proofs.Common.{[], ap}
use Rattle.feed.specs.Call.{holding, started_over}
use Rattle.feed.specs.declared.call.Outcome.{Outcome}
use Rattle.cycle.specs.declared.hall.Stepped.{Stepped}
use Rattle.feed.specs.Call.{started_over}
use Rattle.feed.proofs.call.Monitor.start.Goals as goal
use Rattle.cycle.specs.declared.hall.Hall.{Hall}
use Rattle.feed.specs.declared.call.Monitor.{Monitor}

-- what a start gives back
abbrev outcome_of : Stepped Hall → Outcome Monitor
outcome_of x = record { answer = x.answer; used = 0; monitor = holding x.hall [] }

pub returns : goal.returns
unfolding started_over
returns c = ap outcome_of c.start-s.ensures
