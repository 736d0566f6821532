-- All that a call gives back which settles one record and holds nothing behind it, and which holds the start of one. The numbers are
-- written as the documents write them. Assumes nothing.
use Rattle.std.specs.Prelude.{ℕ, List, [], ◌++◌, length, drop}
use Rattle.cycle.specs.declared.answer.Answer.TheVariants.{NothingSettled}
use Rattle.cycle.specs.declared.hall.Stepped.{Stepped}
use Rattle.feed.specs.Report.{report_of}
use Rattle.feed.specs.Call.{holds, holding, Result}
use Rattle.feed.specs.declared.call.Monitor.{Monitor}
use Rattle.cycle.specs.declared.hall.Hall.{Hall}

-- the record led to x: "the record is settled and removed", "exactly those up to the one that settled the record", 02, order 10: bytes
-- after the 40th keep their values
abbrev pub settled_to : Stepped Hall → ℕ → List ℕ → Result
settled_to x used out = record {
  outcome = record { answer = x.answer; used = used; monitor = holding x.hall [] };
  outbox = report_of x.answer x.hall ++ drop 40 out;
}

-- "it waits for the full length"; "A call that settles nothing says so, which is no refusal, and the outbox keeps its bytes."
abbrev pub waiting_for : Monitor → List ℕ → List ℕ → Result
waiting_for m piece out = record {
  outcome = record { answer = NothingSettled; used = length piece; monitor = holding m.hall (holds m ++ piece) };
  outbox = out;
}
