-- All that a call gives back where what is held and handed in begins with a whole record, or is the start of one. Assumes nothing.
use Rattle.std.proofs.Common.{◌≡◌, ℕ, ◌<◌, ◌≤◌, List, [], ◌++◌, length, drop, sym, ap, ◌∙◌, append_assoc, arith, length-append, drop_at}
use Rattle.bits.proofs.Yes.{not-both}
use Rattle.cycle.specs.Answers.{writes_report}
use Rattle.cycle.specs.Hall.{stepped}
use Rattle.cycle.specs.declared.answer.Answer.TheVariants.{NothingSettled}
use Rattle.feed.specs.Size.{report_length, outbox_needed}
use Rattle.feed.specs.Good.{WholeRecord}
use Rattle.feed.specs.Reader.{settle}
use Rattle.feed.specs.Values.{values_of}
use Rattle.feed.specs.Report.{report_of}
use Rattle.feed.specs.Settled.{has_record, record_in, behind_in, values_in}
use Rattle.feed.specs.Call.{holds, holding, Result, call, called}
use Rattle.feed.specs.OneRecord.{settled_to, waiting_for}
use Rattle.feed.specs.declared.call.Monitor.{Monitor}
use Rattle.feed.proofs.Records.Lengths.{empty-list}
use Rattle.feed.proofs.Reading.Fronts.{waits-short}
use Rattle.feed.proofs.Reading.FirstRecord.{stands-first}
use Rattle.feed.proofs.Calls.Turning.{holds_same}
use Rattle.feed.proofs.Calls.Calling.{call-called}
use Rattle.feed.proofs.Calls.CallCases.{CallCase, none, some, call-case}
use Rattle.feed.proofs.Calls.Steps.{stepped-reports}
use Rattle.feed.proofs.Calls.NextRecord.{last-byte-settles, begun-waits}

module _ (m : Monitor) (x rest out r : List ℕ) (whole : WholeRecord r) (here : holds m ++ x ≡ r) (room : outbox_needed ≤ length out) where
  abbrev stands : holds m ++ (x ++ rest) ≡ r ++ rest
  stands = sym (append_assoc (holds m) x rest) ∙ ap (λ (l : List ℕ). l ++ rest) here

  whole_by : (c : Result) → c.outcome.used ≡ length x → CallCase m (x ++ rest) out c
      → c ≡ settled_to (stepped (values_of r) m.hall) (length x) out
  whole_by c u (none z) = not-both (has_record (r ++ rest)) (stands-first r rest whole).there (ap has_record (sym stands) ∙ z)
  whole_by c u (some z held used y short fits back same) =
      let f = stands-first r rest whole in
      let step : y ≡ stepped (values_of r) m.hall =
      same ∙ ap (λ (l : List ℕ). stepped (values_of l) m.hall) (ap record_in stands ∙ f.first) in
      let rested : held ++ rest ≡ rest =
      ap (λ (l : List ℕ). held ++ l) (sym (drop_at x rest used (sym u))) ∙ back ∙ ap behind_in stands ∙ f.behind in
      let nothing : held ≡ [] = empty-list held (omega (arith, ap length rested, length-append held rest)) in
      λ i. record {
        outcome = record { answer = (step i).answer; used = u i; monitor = holding (step i).hall (nothing i) };
        outbox = report_of (step i).answer (step i).hall ++ drop report_length out;
      }

  pub whole-call : call m (x ++ rest) out ≡ settled_to (stepped (values_of r) m.hall) (length x) out
  whole-call =
      let c = call-called m (x ++ rest) out room in
      let u = (last-byte-settles m x rest out r whole here room).2 in
      c ∙ whole_by (called m (x ++ rest) out) (ap (λ (y : Result). y.outcome.used) (sym c) ∙ u) (call-case m (x ++ rest) out)

module _ (m : Monitor) (piece x out r : List ℕ) (whole : WholeRecord r) (here : holds m ++ (piece ++ x) ≡ r) (more : 0 < length x)
    (room : outbox_needed ≤ length out) where
  begun-by : (c : Result) → c.outcome.answer ≡ NothingSettled → holds c.outcome.monitor ≡ holds m ++ piece → CallCase m piece out c
      → c ≡ waiting_for m piece out
  begun-by c a h (none z) =
      let kept : settle (holds m ++ piece) ≡ holds m ++ piece =
      sym (holds_same m.hall (settle (holds m ++ piece)) (waits-short (holds m ++ piece) z)) ∙ h in
      ap
      (λ (l : List ℕ).
      record { outcome = record { answer = NothingSettled; used = length piece; monitor = holding m.hall l }; outbox = out }) kept
  begun-by c a h (some z held used y short fits back same) =
      not-both (writes_report y.answer) (rw same (stepped-reports (values_in (holds m ++ piece)) m.hall)) (ap writes_report a)

  pub begun-call : call m piece out ≡ waiting_for m piece out
  begun-call =
      let c = call-called m piece out room in
      let w = begun-waits m piece x out r whole here more room in
      c
      ∙ begun-by (called m piece out) (ap (λ (y : Result). y.outcome.answer) (sym c) ∙ w.0)
      (ap (λ (y : Result). holds y.outcome.monitor) (sym c) ∙ w.2) (call-case m piece out)
