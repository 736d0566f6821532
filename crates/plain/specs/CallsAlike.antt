-- 02, order 5, over calls: the same bytes in, the same bytes out. Lists of calls are the newest first. Assumes nothing.
use Rattle.std.specs.Prelude.{◌≡◌, List, [], ◌∷◌, ℕ}
use Rattle.cycle.specs.declared.map.Masks.{Masks}
use Rattle.feed.specs.Call as packed
use Rattle.feed.specs.Calls.{Made}
use Rattle.feed.specs.Handed.{reader_in}
use Rattle.feed.specs.declared.call.Monitor.{Monitor}
use Rattle.plain.specs.Call.{started_over, call}
use Rattle.plain.specs.Corresponds.{Corresponds}
use Rattle.plain.specs.declared.call.PlainMonitor.{PlainMonitor}

-- the plain monitor that the calls leave, from fresh over the map
unfoldable pub monitor_after : List Masks → List Made → PlainMonitor
monitor_after masks [] = (started_over masks).monitor
monitor_after masks (c ∷ cs) = (call (monitor_after masks cs) c.piece c.outbox).outcome.monitor

-- corresponding engines, and readers that hold the same
pub record MonitorsAlike (m : Monitor) (q : PlainMonitor) : Type 0 where
  pub engines : Corresponds m.hall q.plain
  pub readers : q.reader ≡ reader_in m

-- what a call gives back: the same answer, bytes used and whole outbox, and monitors that are alike
pub record CallAlike (m : Monitor) (q : PlainMonitor) (piece out : List ℕ) : Type 0 where
  pub answer : (call q piece out).outcome.answer ≡ (packed.call m piece out).outcome.answer
  pub used : (call q piece out).outcome.used ≡ (packed.call m piece out).outcome.used
  pub outbox : (call q piece out).outbox ≡ (packed.call m piece out).outbox
  pub monitors : MonitorsAlike (packed.call m piece out).outcome.monitor (call q piece out).outcome.monitor
