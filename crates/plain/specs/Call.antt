-- One call over the plain engine: 01, "The feed" and "Which answer a record gets". The reader is feed's. Assumes nothing.
use Rattle.std.specs.Prelude.{cond, is_some, List, [], ◌++◌, ℕ, ltb, length, take, drop}
use Rattle.cycle.specs.declared.answer.Answer.TheVariants.{OutboxShort, NothingSettled}
use Rattle.cycle.specs.declared.map.Masks.{Masks}
use Rattle.feed.specs.Size.{report_length, outbox_needed}
use Rattle.feed.specs.Format.{length_marked}
use Rattle.feed.specs.Values.{values_of}
use Rattle.feed.specs.Report.{report_shown}
use Rattle.feed.specs.Handed.{reader_of, handed}
use Rattle.feed.specs.declared.hand.Handed.{Handed}
use Rattle.plain.specs.Hall.{started, stepped}
use Rattle.plain.specs.Shown.{shown_of}
use Rattle.plain.specs.declared.hall.Plain.{Plain}
use Rattle.plain.specs.declared.call.PlainMonitor.{PlainMonitor}
use Rattle.feed.specs.declared.call.Outcome.{Outcome}

-- a fresh monitor over a map
unfoldable pub started_over : List Masks → Outcome PlainMonitor
started_over masks =
    let x = started masks in
    record { answer = x.answer; used = 0; monitor = record { plain = x.hall; reader = reader_of [] } }

-- what a call gives back, and the whole outbox
pub record Result : Type 0 where
  pub outcome : Outcome PlainMonitor
  pub outbox : List ℕ

-- by what the reader hands out: "A call that settles nothing says so", or the record is answered and its report written
abbrev pub called_by : Handed → Plain → List ℕ → Result
called_by x p out =
    let y = stepped (values_of (take (length_marked x.settled) x.bytes)) p in
    cond (is_some x.settled)
    (record {
      outcome = record { answer = y.answer; used = x.used; monitor = record { plain = y.hall; reader = x.reader } };
      outbox = report_shown y.answer (shown_of y.hall) ++ drop report_length out;
    })
    (record {
      outcome = record { answer = NothingSettled; used = x.used; monitor = record { plain = p; reader = x.reader } };
      outbox = out;
    })

-- 5: "tested before anything else in a call"; 02, order 10: "answer 5 means under 40"
unfoldable pub call : PlainMonitor → List ℕ → List ℕ → Result
call m piece out =
    let c = called_by (handed m.reader piece) m.plain out in
    cond (ltb (length out) outbox_needed)
    (record { outcome = record { answer = OutboxShort; used = 0; monitor = m }; outbox = out })
    c
