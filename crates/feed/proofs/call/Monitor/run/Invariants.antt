-- `feed::call::Monitor::run` meets its contract. Assumes nothing.
use Rattle.std.proofs.Common.{◌-◌, IfSome, length}
use Rattle.feed.proofs.Calls.Running.{monitor_at, Loops}
use Rattle.feed.proofs.Calls.CalmRuns.{Calmed}
use Rattle.feed.proofs.Calls.Stretches.{Stretching}
use Rattle.feed.proofs.call.Monitor.run.Given as goal

abbrev pub invariant-loop-left : goal.invariant-loop-left
invariant-loop-left l =
    Stretching l.piece l.b l.jets l.count l.initial.hall l.initial.used l.initial.written l.initial.out l.hall l.used l.written l.out l.left

abbrev pub decreases-loop-left : goal.decreases-loop-left
decreases-loop-left l = l.left

abbrev pub invariant-loop-written : goal.invariant-loop-written
invariant-loop-written l =
    Loops (monitor_at l.initial.hall l.initial.b l.initial.count) l.piece l.initial.out l.hall l.b l.count l.used l.written l.out × IfSome l.calm (λ jets. Calmed l.hall jets l.count l.written l.out)

abbrev pub decreases-loop-written : goal.decreases-loop-written
decreases-loop-written l = length l.initial.out - l.written
