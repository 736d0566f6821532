-- Records sent: one cut into pieces, and several one after the other as a feed, the oldest first; and what their values make of a hall. The
-- numbers are written as the documents write them. Assumes nothing.
use Rattle.std.specs.Prelude.{◌≡◌, cond, List, [], ◌∷◌, ◌++◌, ℕ, take, Ok}
use Rattle.cycle.specs.Answers.{writes_report}
use Rattle.cycle.specs.Hall.{stepped}
use Rattle.cycle.specs.Records.{Record}
use Rattle.cycle.specs.declared.hall.Hall.{Hall}
use Rattle.feed.specs.Report.{report_taken}
use Rattle.feed.specs.Call.{Result, call}
use Rattle.feed.specs.declared.call.Monitor.{Monitor}
use Rattle.writer.specs.RecordBytes.{bytes_of}
use Rattle.writer.specs.Write.{write}
use Rattle.writer.specs.Fit.{FitRecord}

-- ---- one record, in pieces: calls on any monitor, each handed the next piece, once, and the same outbox

-- the monitor that the calls leave
unfoldable pub monitor_over : Monitor → List (List ℕ) → List ℕ → Monitor
monitor_over m [] out = m
monitor_over m (p ∷ ps) out = monitor_over (call m p out).outcome.monitor ps out

-- the reports that they write
abbrev pub report_written : Result → List (List ℕ)
report_written c = cond (writes_report c.outcome.answer) (take 40 c.outbox ∷ []) []

unfoldable pub reports_over : Monitor → List (List ℕ) → List ℕ → List (List ℕ)
reports_over m [] out = []
reports_over m (p ∷ ps) out = report_written (call m p out) ++ reports_over (call m p out).outcome.monitor ps out

-- ---- records one after the other

-- each is as its arrays and types hold it, and the writer writes it, given an outbox
pub data AllWritten : List Record → Type 0 where
  none : AllWritten []
  more : {r : Record} {rs : List Record} (out : List ℕ) → FitRecord r → (write r out).answer ≡ Ok tt → AllWritten rs
      → AllWritten (r ∷ rs)

unfoldable pub sent_bytes : List Record → List ℕ
sent_bytes [] = []
sent_bytes (r ∷ rs) = bytes_of r ++ sent_bytes rs

-- the hall stepped by their values, in their order
unfoldable pub hall_fed : List Record → Hall → Hall
hall_fed [] h = h
hall_fed (r ∷ rs) h = hall_fed rs (stepped r h).hall

-- the reports of those taken
unfoldable pub reports_fed : List Record → Hall → List (List ℕ)
reports_fed [] h = []
reports_fed (r ∷ rs) h = report_taken (stepped r h) ++ reports_fed rs (stepped r h).hall
