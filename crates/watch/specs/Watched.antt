-- What the program keeps from turn to turn, and what it may write. Assumes nothing.
use Rattle.std.specs.Prelude.{◌≡◌, ℕ, ◌%◌, ◌^◌, ◌≤◌, false, List, length}
use Rattle.cycle.specs.Size.{string_count}
use Rattle.cycle.specs.Map.{refused}
use Rattle.feed.specs.Size.{map_length, outbox_needed}
use Rattle.feed.specs.Masks.{masks_of_bytes}
use Rattle.feed.specs.Call.{started_over, runs}
use Rattle.feed.specs.Calls.{Made, monitor_after, Hands}
use Rattle.feed.specs.Batch.{all_reports}
use Rattle.feed.specs.declared.call.Monitor.{Monitor}

-- 02, order 7: "The program reads 128 bytes of masks"; "if the masks are short or refused it writes nothing": the monitor is fresh over
-- these bytes, a whole map that is accepted
pub record Fresh (start : Monitor) (map : List ℕ) : Type 0 where
  pub whole : length map ≡ map_length
  pub accepted : refused string_count (masks_of_bytes map) ≡ false
  pub monitor : start ≡ (started_over (masks_of_bytes map)).monitor

-- There are a feed and calls that hand in what has been read, all but `left`, and m is the monitor after them. Each turn has made a call;
-- the feed has as many bytes as the reads gave, and the calls' reports as many as the writes took, counted round in a word.
pub record Watched (start m : Monitor) (turns fed told : ℕ) (left : List ℕ) : Type 0 where
  pub map : List ℕ
  pub fresh : Fresh start map
  pub feed : List ℕ
  pub made : List Made
  pub turned : turns ≤ length made
  pub read : fed ≡ length feed % 2 ^ 64
  pub written : told ≡ length (all_reports (masks_of_bytes map) made) % 2 ^ 64
  pub hands : Hands (masks_of_bytes map) feed made left
  pub monitor : m ≡ monitor_after (masks_of_bytes map) made

-- "and writes the reports": these bytes are what a run reported for the monitor and the piece that it had, and all of it
pub record ReportedFor (start m : Monitor) (turns fed told : ℕ) (piece bytes : List ℕ) : Type 0 where
  pub watched : Watched start m turns fed told piece
  pub room : ℕ
  pub enough : outbox_needed ≤ room
  pub same : bytes ≡ (runs room m piece).reports
