-- What the program keeps from call to call, and what it may write. The calls, the feed that they hand in and their reports are the packed
-- engine's: so each write is a report that `watch` may write; that it does not matter how a feed is cut is the front door's.
-- Assumes nothing.
use Rattle.std.specs.Prelude.{◌≡◌, ℕ, ◌%◌, ◌^◌, ◌≤◌, false, cond, List, [], length}
use Rattle.cycle.specs.Size.{string_count}
use Rattle.cycle.specs.Answers.{writes_report}
use Rattle.cycle.specs.Map.{FitMap, refused}
use Rattle.feed.specs.Size.{map_length, outbox_needed}
use Rattle.feed.specs.Masks.{masks_of_bytes}
use Rattle.feed.specs.Calls.{Made, answer_of, report_in, Hands}
use Rattle.feed.specs.Batch.{all_reports}
use Rattle.plain.specs.Call.{started_over}
use Rattle.plain.specs.CallsAlike.{monitor_after}
use Rattle.plain.specs.declared.call.PlainMonitor.{PlainMonitor}

-- 02, order 7: "The program reads 128 bytes of masks"; "if the masks are short or refused it writes nothing": the monitor is fresh over
-- these bytes, a whole map that is accepted
pub record Fresh (start : PlainMonitor) (map : List ℕ) : Type 0 where
  pub whole : length map ≡ map_length
  pub fits : FitMap (masks_of_bytes map)
  pub accepted : refused string_count (masks_of_bytes map) ≡ false
  pub monitor : start ≡ (started_over (masks_of_bytes map)).monitor

-- There are a feed and calls that hand in what has been read, all but `left`, and m is the plain monitor after them. Each turn has made a
-- call; the feed has as many bytes as the reads gave, and the calls' reports as many as the writes took, counted round in a word.
pub record Watched (start m : PlainMonitor) (turns fed told : ℕ) (left : List ℕ) : Type 0 where
  pub map : List ℕ
  pub fresh : Fresh start map
  pub feed : List ℕ
  pub made : List Made
  pub turned : turns ≤ length made
  pub read : fed ≡ length feed % 2 ^ 64
  pub written : told ≡ length (all_reports (masks_of_bytes map) made) % 2 ^ 64
  pub hands : Hands (masks_of_bytes map) feed made left
  pub monitor : m ≡ monitor_after (masks_of_bytes map) made

-- "and writes the reports": these bytes are the report of the next call, with the piece that it had, and none where it has none
pub record ReportedFor (start m : PlainMonitor) (turns fed told : ℕ) (piece bytes : List ℕ) : Type 0 where
  pub watched : Watched start m turns fed told piece
  pub outbox : List ℕ
  pub enough : outbox_needed ≤ length outbox
  pub same : bytes
      ≡ cond (writes_report (answer_of (masks_of_bytes watched.map) (record { piece = piece; outbox = outbox }) watched.made))
      (report_in (masks_of_bytes watched.map) (record { piece = piece; outbox = outbox }) watched.made) []
