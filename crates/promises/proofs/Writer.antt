-- 02, order 1: "A writer of feed records.", as theorems about `write` (writer, specs/Write) and the very definitions that the front door
-- speaks of. Values are as their arrays and types hold them: `FitRecord`. "Demands 2 and 3 read as before.": their theorems stand in
-- `Promises`. The words of each statement are defined in specs/ of `writer`, `feed` and `cycle`; each proof is a citation. Assumes nothing.
use mathlib.Core.Path.{◌≡◌}
use mathlib.Core.List.{List, [], ◌∷◌, ◌++◌}
use mathlib.Core.Logic.{◌↔◌}
use Prim.Native.Nat.{ℕ, ◌<◌, ◌≤◌}
use lib.ListN.{length, get_or, drop}
use Rattle.std.proofs.Common.{Ok}
use Rattle.cycle.specs.Records.{Record}
use Rattle.cycle.specs.Hall.{stepped}
use Rattle.cycle.specs.declared.map.Masks.{Masks}
use Rattle.feed.specs.Settled.{record_in, values_in}
use Rattle.feed.specs.Call.{holds, holding, started_over, call}
use Rattle.feed.specs.Calls.{Made, monitor_after, taken_reports, Finished, joined}
use Rattle.feed.specs.Good.{WholeRecord}
use Rattle.feed.specs.Values.{values_of}
use Rattle.feed.specs.Report.{report_of}
use Rattle.feed.specs.OneRecord.{settled_to, waiting_for}
use Rattle.feed.specs.declared.call.Monitor.{Monitor}
use Rattle.writer.specs.RecordBytes.{bytes_of}
use Rattle.writer.specs.Write.{Wrote, wrote, write}
use Rattle.writer.specs.Fit.{FitRecord}
use Rattle.writer.specs.Answers.{Writing, number_of}
use Rattle.writer.specs.Refused.{AnsweredWhen, Numbered, needed}
use Rattle.writer.specs.Does.{Does}
use Rattle.writer.specs.Sent.{monitor_over, reports_over, AllWritten, sent_bytes, hall_fed, reports_fed}
use Rattle.writer.proofs.Doing as doing
use Rattle.writer.proofs.Refusals as refusing
use Rattle.writer.proofs.Sending as sending
use Rattle.writer.proofs.Feeding as feeding
use Rattle.writer.proofs.WriteBack as written-again
use Rattle.writer.proofs.WrittenBack as back

-- "Given the values of a minor or major record, write its 59 or .. bytes into a lent outbox" (order 6: now 619);
-- "refuse a reserved bit or a quantity above 1,000, or an outbox too short, leaving the outbox unchanged, in that order of checks. Bytes
-- past the record keep their values." Each answer is given if and only if its condition holds of the values and the outbox's length; what
-- is written is a whole record, and its values, place by place, are those given. Only what `write` gives back is all that.
pub writer-does : (r : Record) → FitRecord r → (out : List ℕ) → Does r out (write r out)
writer-does = doing.writer-does

pub only-writer : (r : Record) → FitRecord r → (out : List ℕ) (x : Wrote) → Does r out x → x ≡ write r out
only-writer = doing.only-writer

-- of any values at all: each answer if and only if its condition holds; on a refusal the outbox is the one handed in; and what is written
-- is called `bytes_of r` below, as many bytes as the record has, and behind them what was there
pub writer-answers : (r : Record) (out : List ℕ) (a : Writing) → ((write r out).answer ≡ a) ↔ AnsweredWhen a r (length out)
writer-answers = refusing.writes-exactly

pub refused-unchanged : (r : Record) (out : List ℕ) → ((write r out).answer ≡ Ok tt → ⊥) → (write r out).outbox ≡ out
refused-unchanged = refusing.refused-as-it-was

pub written-bytes : (r : Record) (out : List ℕ) → (write r out).answer ≡ Ok tt
    → ((write r out).outbox ≡ bytes_of r ++ drop (needed r) out) × (length (bytes_of r) ≡ needed r)
written-bytes = refusing.written-bytes

-- "Refusal numbers are the writer's own, listed in docs/."
pub writer-numbers : (r : Record) (out : List ℕ) → Numbered (number_of (write r out).answer) r (length out)
writer-numbers = refusing.writer-numbers

-- "An empty reader given what was written gives the values back": a record that was written, and any monitor that holds nothing, whatever
-- its hall
module _ (r : Record) (fits : FitRecord r) (box : List ℕ) (written : (write r box).answer ≡ Ok tt) (m : Monitor) (empty : holds m ≡ [])
    (out : List ℕ) (room : 40 ≤ length out) where
  -- in one piece, with anything behind: exactly that record is settled, its values are those given, exactly its bytes are used, nothing is
  -- held, and the hall steps by exactly those values
  pub read_back : (behind : List ℕ)
      → (record_in (holds m ++ (bytes_of r ++ behind)) ≡ bytes_of r)
      × (values_in (holds m ++ (bytes_of r ++ behind)) ≡ r)
      × (call m (bytes_of r ++ behind) out ≡ settled_to (stepped r m.hall) (needed r) out)
  read_back behind = sending.one_piece r box written fits m behind out empty room

  -- cut anywhere: the calls leave the same monitor, and write that one report
  pub read-back-in-pieces : (pieces : List (List ℕ)) → joined pieces ≡ bytes_of r
      → (monitor_over m pieces out ≡ holding (stepped r m.hall).hall [])
      × (reports_over m pieces out ≡ report_of (stepped r m.hall).answer (stepped r m.hall).hall ∷ [])
  read-back-in-pieces pieces = sending.in_pieces r box written fits out room m pieces empty

-- piece by piece, whatever the monitor holds of the record: the rest settles it, with anything behind, and less than that waits
module _ (r : Record) (box : List ℕ) (written : (write r box).answer ≡ Ok tt) (m : Monitor) (out : List ℕ) (room : 40 ≤ length out) where
  pub last-settles : FitRecord r → (last behind : List ℕ) → holds m ++ last ≡ bytes_of r
      → call m (last ++ behind) out ≡ settled_to (stepped r m.hall) (length last) out
  last-settles fits last behind here = sending.last-settles r box written fits m last behind out here room

  pub rest-waits : (piece rest : List ℕ) → holds m ++ (piece ++ rest) ≡ bytes_of r → 0 < length rest
      → call m piece out ≡ waiting_for m piece out
  rest-waits piece rest here more = sending.rest-waits r box written m piece rest out here more room

-- records written one after the other, from fresh, however the feed is cut: the reports that answer 'taken' are those of their values, and
-- so is the end state
pub sent-feed : (masks : List Masks) (rs : List Record) → AllWritten rs → (cs : List Made) → Finished masks (sent_bytes rs) cs
    → (taken_reports masks cs ≡ reports_fed rs (started_over masks).monitor.hall)
    × (monitor_after masks cs ≡ holding (hall_fed rs (started_over masks).monitor.hall) [])
sent-feed = feeding.sent-feed

-- "writing what a settled record held gives its bytes back": for every whole record of bytes, and so for whatever any call settles
pub whole_back : (l : List ℕ) → ((i : ℕ) → get_or l i 0 < 256) → WholeRecord l → (out : List ℕ) → length l ≤ length out
    → write (values_of l) out ≡ wrote (Ok tt) (l ++ drop (length l) out)
whole_back = back.whole_back

pub settled_back : (m : Monitor) (piece : List ℕ) → ((i : ℕ) → get_or (holds m ++ piece) i 0 < 256)
    → 0 < length (record_in (holds m ++ piece)) → (out : List ℕ) → length (record_in (holds m ++ piece)) ≤ length out
    → write (values_in (holds m ++ piece)) out
    ≡ wrote (Ok tt) (record_in (holds m ++ piece) ++ drop (length (record_in (holds m ++ piece))) out)
settled_back m piece = back.settled_back (holds m ++ piece)

-- bytes carry values as their arrays and types hold them
pub values-fit : (l : List ℕ) → ((i : ℕ) → get_or l i 0 < 256) → FitRecord (values_of l)
values-fit = written-again.values-fit
