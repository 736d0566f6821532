-- What every call leaves, whatever came: bytes held that leave a place of the store free, with zeros behind them; and how a call's outcome
-- and report go with the outbox. Assumes nothing.
use Rattle.std.proofs.Common.{◌≡◌, ℕ, ◌-◌, ◌≤◌, Bool, true, false, List, [], ◌++◌, length, take, drop, sym, refl, ap, ◌∙◌, append-nil, arith, length-drop}
use Rattle.bits.proofs.Yes.{not-both}
use Rattle.cycle.specs.Answers.{writes_report}
use Rattle.cycle.specs.declared.hall.Hall.{Hall}
use Rattle.cycle.specs.declared.hall.Stepped.{Stepped}
use Rattle.feed.specs.Size.{store_length, most_held, report_length}
use Rattle.feed.specs.Format.{look, settles, length_shown}
use Rattle.feed.specs.Reader.{Stop, reads}
use Rattle.feed.specs.Step.{step_of}
use Rattle.feed.specs.Report.{report_of}
use Rattle.feed.specs.Call.{holds, holding, Result, called_by, called}
use Rattle.feed.specs.declared.call.Monitor.{Monitor}
use Rattle.feed.proofs.Records.Lengths.{shown-long}
use Rattle.feed.proofs.Reading.Reads.{reads_short, reads-waits}
use Rattle.feed.proofs.Reports.ReportLengths.{report-length}
use Rattle.feed.proofs.Calls.Steps.{front-whole, step-reports}
use Rattle.feed.proofs.Calls.Turning.{rest-short}
use Rattle.feed.proofs.Calls.Calling.{holds-short}

-- the bytes that a call leaves held
pub record Keeps (c : Result) : Type 0 where
  pub held : List ℕ
  pub short : length held ≤ most_held
  pub monitor : c.outcome.monitor ≡ holding c.outcome.monitor.hall held

keeps-by : (t : Bool) (hall : Hall) (s : Stop) (used : ℕ) (out : List ℕ) → settles (look s.left) ≡ t → length s.left ≤ store_length
    → (settles (look s.left) ≡ false → length s.left ≤ most_held) → Keeps (called_by t hall s used out)
keeps-by true hall s used out e l w =
    let n : ℕ = length_shown (look s.left) in
    record {
      held = drop n s.left;
      short = omega (arith, length-drop n s.left, shown-long (look s.left) e);
      monitor = refl;
    }
keeps-by false hall s used out e l w = record { held = s.left; short = w e; monitor = refl }

pub call-keeps : (m : Monitor) (piece out : List ℕ) → Keeps (called m piece out)
unfolding called
call-keeps m piece out =
    let s : Stop = reads (holds m) piece in
    let h = holds-short m in
    keeps-by (settles (look s.left)) m.hall s (length piece - length s.rest) out refl
    (reads_short (holds m) piece (omega arith)) (reads-waits (holds m) piece)

-- no more is used than there is
used-by : (t : Bool) (hall : Hall) (s : Stop) (used : ℕ) (out : List ℕ) → (called_by t hall s used out).outcome.used ≡ used
used-by true hall s used out = refl
used-by false hall s used out = refl

pub used-within : (m : Monitor) (piece out : List ℕ) → (called m piece out).outcome.used ≤ length piece
unfolding called
used-within m piece out =
    let s : Stop = reads (holds m) piece in
    let r = rest-short (holds m) piece in
    rw (used-by (settles (look s.left)) m.hall s (length piece - length s.rest) out) (omega arith)

-- ---- the outbox

-- the outcome does not depend on the outbox, whose bytes stay or have the report before them
pub record Written (c d : Result) (out : List ℕ) : Type 0 where
  pub outcome : c.outcome ≡ d.outcome
  pub report : writes_report d.outcome.answer ≡ true
      → (c.outbox ≡ d.outbox ++ drop report_length out) × (length d.outbox ≡ report_length)
  pub none : writes_report d.outcome.answer ≡ false → c.outbox ≡ out

written-by : (t : Bool) (hall : Hall) (s : Stop) (used : ℕ) (out : List ℕ) → settles (look s.left) ≡ t
    → Written (called_by t hall s used out) (called_by t hall s used []) out
written-by false hall s used out e = record { outcome = refl; report = λ q. not-both false q refl; none = λ q. refl }
written-by true hall s used out e =
    let r : List ℕ = take (length_shown (look s.left)) s.left in
    let x : Stepped Hall = step_of r hall in
    let report : List ℕ = report_of x.answer x.hall in
    record {
      outcome = refl;
      report = λ q. (
        ap (λ (l : List ℕ). l ++ drop report_length out) (sym (append-nil report)),
        ap length (append-nil report) ∙ report-length x.answer x.hall,
      );
      none = λ q. not-both _ (step-reports r hall (front-whole s.left e)) q;
    }

pub call-written : (m : Monitor) (piece out : List ℕ) → Written (called m piece out) (called m piece []) out
unfolding called
call-written m piece out =
    let s : Stop = reads (holds m) piece in
    written-by (settles (look s.left)) m.hall s (length piece - length s.rest) out refl
