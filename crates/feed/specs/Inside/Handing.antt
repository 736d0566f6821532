-- A call in two parts: the reader hands out, and the hall steps by it and reports. Assumes nothing.
use Rattle.std.specs.Prelude.{cond, is_some, ℕ, List, ◌++◌, take, drop}
use Rattle.cycle.specs.Hall.{stepped}
use Rattle.cycle.specs.declared.answer.Answer.TheVariants.{NothingSettled}
use Rattle.cycle.specs.declared.hall.Hall.{Hall}
use Rattle.feed.specs.Size.{report_length}
use Rattle.feed.specs.Format.{length_marked}
use Rattle.feed.specs.Values.{values_of}
use Rattle.feed.specs.Report.{report_of}
use Rattle.feed.specs.Call.{Result}
use Rattle.feed.specs.declared.call.Monitor.{Monitor}
use Rattle.feed.specs.declared.hand.Reader.{Reader}
use Rattle.feed.specs.declared.hand.Handed.{Handed}

-- the monitor of a hall with this reader
abbrev pub reading : Hall → Reader → Monitor
reading h r = record { hall = h; held = r.held; count = r.count }

abbrev pub called_on : Handed → Hall → List ℕ → Result
called_on x h out =
    let y = stepped (values_of (take (length_marked x.settled) x.bytes)) h in
    cond (is_some x.settled)
    (record {
      outcome = record { answer = y.answer; used = x.used; monitor = reading y.hall x.reader };
      outbox = report_of y.answer y.hall ++ drop report_length out;
    })
    (record { outcome = record { answer = NothingSettled; used = x.used; monitor = reading h x.reader }; outbox = out })
