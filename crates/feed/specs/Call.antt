-- 01, "The feed" and "Which answer a record gets": one call, and a run of calls over a piece. Assumes nothing.
use Rattle.std.specs.Prelude.{◌≡◌, ℕ, zero, suc, ◌+◌, ◌-◌, Bool, true, false, cond, List, [], ◌++◌, length, take, drop, nat_lt}
use Rattle.cycle.specs.Answers.{writes_report}
use Rattle.cycle.specs.Hall.{started}
use Rattle.cycle.specs.declared.answer.Answer.TheVariants.{OutboxShort, NothingSettled}
use Rattle.cycle.specs.declared.hall.Hall.{Hall}
use Rattle.cycle.specs.declared.map.Masks.{Masks}
use Rattle.feed.specs.Size.{report_length, outbox_needed}
use Rattle.feed.specs.Format.{look, settles, length_shown}
use Rattle.feed.specs.Reader.{Stop, reads, store, held_of}
use Rattle.feed.specs.Step.{step_of}
use Rattle.feed.specs.Report.{report_of}
use Rattle.feed.specs.declared.call.Monitor.{Monitor}
use Rattle.feed.specs.declared.call.Outcome.{Outcome}
use Rattle.feed.specs.declared.call.Ran.{Ran}

-- the bytes that a monitor handed in holds
abbrev pub holds : Monitor → List ℕ
holds m = held_of m.count m.held

-- the monitor of hall h that holds the bytes l
abbrev pub holding : Hall → List ℕ → Monitor
holding h l = record { hall = h; held = store l; count = length l }

-- a fresh monitor over a map
unfoldable pub started_over : List Masks → Outcome Monitor
started_over masks = let x = started masks in record { answer = x.answer; used = 0; monitor = holding x.hall [] }

-- what a call gives back, and the whole outbox
pub record Result : Type 0 where
  pub outcome : Outcome Monitor
  pub outbox : List ℕ

-- a record stands at the front: it is answered and removed, and its report written; 02, order 10: bytes after the 40th keep their values
abbrev pub settled_one : Hall → Stop → ℕ → List ℕ → Result
settled_one h s used out =
    let n = length_shown (look s.left) in
    let x = step_of (take n s.left) h in
    record {
      outcome = record { answer = x.answer; used = used; monitor = holding x.hall (drop n s.left) };
      outbox = report_of x.answer x.hall ++ drop report_length out;
    }

-- "A call that settles nothing says so, which is no refusal, and the outbox keeps its bytes."
abbrev pub settled_none : Hall → Stop → ℕ → List ℕ → Result
settled_none h s used out =
    record { outcome = record { answer = NothingSettled; used = used; monitor = holding h s.left }; outbox = out }

abbrev pub called_by : Bool → Hall → Stop → ℕ → List ℕ → Result
called_by there h s used out = cond there (settled_one h s used out) (settled_none h s used out)

-- "It says how many bytes of the piece it used: exactly those up to the one that settled the record, none if held bytes did, or all."
unfoldable pub called : Monitor → List ℕ → List ℕ → Result
called m piece out =
    let s = reads (holds m) piece in
    called_by (settles (look s.left)) m.hall s (length piece - length s.rest) out

-- 5: "as before, reader too, 0 bytes used", "untouched"; it "is tested before anything else in a call"; 02, order 10: "answer 5 means
-- under 40"
unfoldable pub call : Monitor → List ℕ → List ℕ → Result
call m piece out =
    let c = called m piece out in
    cond (nat_lt (length out) outbox_needed)
    (record { outcome = record { answer = OutboxShort; used = 0; monitor = m }; outbox = out })
    c

-- ---- the run that a program repeats: calls over one piece, one after the other, each with room for its report

-- what such calls give: their reports one after the other, the bytes of the piece used, the monitor, and whether there is more to come out
pub record Reported : Type 0 where
  pub used : ℕ
  pub reports : List ℕ
  pub more : Bool
  pub monitor : Monitor

-- there is no room for a call
abbrev pub reported_full : Monitor → Reported
reported_full m = record { used = 0; reports = []; more = true; monitor = m }

-- a call that settled a record, and then those behind it
abbrev pub reported_then : Result → Reported → Reported
reported_then c r = record
    { used = c.outcome.used + r.used; reports = c.outbox ++ r.reports; more = r.more; monitor = r.monitor }

-- a call that settled nothing
abbrev pub reported_last : Result → Reported
reported_last c = record { used = c.outcome.used; reports = []; more = false; monitor = c.outcome.monitor }

-- calls as long as there is room, at most `most` of them, the last the first that settles nothing
unfoldable pub runs_within : ℕ → ℕ → Monitor → List ℕ → Reported
runs_within zero room m piece = reported_full m
runs_within (suc most) room m piece =
    let c = called m piece [] in
    let r = runs_within most (room - length c.outbox) c.outcome.monitor (drop c.outcome.used piece) in
    let then = reported_then c r in
    cond (nat_lt room outbox_needed) (reported_full m) (cond (writes_report c.outcome.answer) then (reported_last c))

-- each report takes at least a byte of the room: so many calls are never too few
abbrev pub runs : ℕ → Monitor → List ℕ → Reported
runs room m piece = runs_within room room m piece

-- what the function gives back, and the outbox: the reports, and behind them what was there
pub record RanBy (x : Reported) (out : List ℕ) (r : Ran) (after : List ℕ) : Type 0 where
  pub used : r.used ≡ x.used
  pub written : r.written ≡ length x.reports
  pub more : r.more ≡ x.more
  pub monitor : r.monitor ≡ x.monitor
  pub outbox : after ≡ x.reports ++ drop (length x.reports) out
