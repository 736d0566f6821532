-- A record that is written, read by any monitor that holds none of it or its first bytes: by one call, and in pieces. Assumes nothing.
use mathlib.Core.Path.{◌≡◌, refl, sym, ap, ap₂, ◌∙◌}
use mathlib.Core.Bool.{true}
use mathlib.Core.List.{List, [], ◌∷◌, ◌++◌, append_assoc, append-nil}
use mathlib.Core.Logic.{◌⊎◌, inl, inr}
use Prim.Native.Nat.{ℕ, ◌<◌, ◌≤◌}
use native.Mathlib.Omega.{arith}
use lib.ListN.{length, drop, length-append}
use lib.Seq.{take_at}
use Rattle.std.proofs.Common.{Ok}
use Rattle.cycle.specs.Answers.{writes_report}
use Rattle.cycle.specs.Hall.{stepped}
use Rattle.cycle.specs.Records.{Record, minor, major}
use Rattle.cycle.specs.declared.hall.Hall.{Hall}
use Rattle.cycle.specs.declared.hall.Stepped.{Stepped}
use Rattle.feed.specs.Size.{outbox_needed, store_length}
use Rattle.feed.specs.Format.{look}
use Rattle.feed.specs.Good.{WholeRecord}
use Rattle.feed.specs.Reader.{settle, reads}
use Rattle.feed.specs.Values.{values_of}
use Rattle.feed.specs.Report.{report_of}
use Rattle.feed.specs.Settled.{record_in, values_in}
use Rattle.feed.specs.Call.{holds, holding, Result, called, call}
use Rattle.feed.specs.Calls.{joined}
use Rattle.feed.specs.OneRecord.{settled_to, waiting_for}
use Rattle.feed.specs.declared.call.Monitor.{Monitor}
use Rattle.feed.proofs.Records.Lengths.{below_or, empty-list}
use Rattle.feed.proofs.Reading.FirstRecord.{stands-first}
use Rattle.feed.proofs.Reports.ReportLengths.{report-length}
use Rattle.feed.proofs.Calls.Turning.{holds_same}
use Rattle.feed.proofs.Calls.Calling.{call-called}
use Rattle.feed.proofs.Calls.Steps.{stepped-reports}
use Rattle.feed.proofs.Calls.WholeCalls.{whole-call, begun-call}
use Rattle.writer.specs.RecordBytes.{bytes_of}
use Rattle.writer.specs.Write.{write}
use Rattle.writer.specs.Fit.{FitRecord}
use Rattle.writer.specs.Refused.{needed}
use Rattle.writer.specs.Sent.{monitor_over, report_written, reports_over}
use Rattle.writer.proofs.Lengths.{bytes-length}
use Rattle.writer.proofs.Refusals.{needs-length, written-tests}
use Rattle.writer.proofs.WholeWritten.{written-record}
use Rattle.writer.proofs.ReadBack.{values-back}

-- ---- one record that the writer writes

module _ (r : Record) (box : List ℕ) (written : (write r box).answer ≡ Ok tt) where
  pub is_whole : WholeRecord (bytes_of r)
  is_whole = let t = written-tests r box written in written-record r t.0 t.1

  -- a call that does not bring its last bytes
  pub rest-waits : (m : Monitor) (piece rest out : List ℕ) → holds m ++ (piece ++ rest) ≡ bytes_of r → 0 < length rest
      → outbox_needed ≤ length out → call m piece out ≡ waiting_for m piece out
  rest-waits m piece rest out here more room = begun-call m piece rest out (bytes_of r) is_whole here more room

  module _ (fits : FitRecord r) where
    pub steps-by : (h : Hall) → stepped (values_of (bytes_of r)) h ≡ stepped r h
    steps-by h = ap (λ (v : Record). stepped v h) (values-back r fits)

    -- the call that does, the others being held
    pub last-settles : (m : Monitor) (last behind out : List ℕ) → holds m ++ last ≡ bytes_of r → outbox_needed ≤ length out
        → call m (last ++ behind) out ≡ settled_to (stepped r m.hall) (length last) out
    last-settles m last behind out here room =
        whole-call m last behind out (bytes_of r) is_whole here room
        ∙ ap (λ (x : Stepped Hall). settled_to x (length last) out) (steps-by m.hall)

    -- all in one piece, to a reader that holds nothing
    pub one_piece : (m : Monitor) (behind out : List ℕ) → holds m ≡ [] → outbox_needed ≤ length out
        → (record_in (holds m ++ (bytes_of r ++ behind)) ≡ bytes_of r)
        × (values_in (holds m ++ (bytes_of r ++ behind)) ≡ r)
        × (call m (bytes_of r ++ behind) out ≡ settled_to (stepped r m.hall) (needed r) out)
    one_piece m behind out empty room =
        let first : record_in (holds m ++ (bytes_of r ++ behind)) ≡ bytes_of r =
        ap (λ (l : List ℕ). record_in (l ++ (bytes_of r ++ behind))) empty ∙ (stands-first (bytes_of r) behind is_whole).first in (
          first,
          ap values_of first ∙ values-back r fits,
          last-settles m (bytes_of r) behind out (ap (λ (l : List ℕ). l ++ bytes_of r) empty) room
              ∙ ap (λ (n : ℕ). settled_to (stepped r m.hall) n out) (bytes-length r ∙ sym (needs-length r)),
        )

-- ---- pieces

bytes-least : (r : Record) → 0 < length (bytes_of r)
bytes-least (minor r) = omega (arith, bytes-length (minor r))
bytes-least (major r) = omega (arith, bytes-length (major r))

bytes_most : (r : Record) → length (bytes_of r) ≤ store_length
bytes_most (minor r) = omega (arith, bytes-length (minor r))
bytes_most (major r) = omega (arith, bytes-length (major r))

-- an empty reader handed nothing
idle-call : (h : Hall) (out : List ℕ) → outbox_needed ≤ length out → call (holding h []) [] out ≡ waiting_for (holding h []) [] out
unfolding called reads settle look
idle-call h out room = call-called (holding h []) [] out room

module _ (h : Hall) (out : List ℕ) (room : outbox_needed ≤ length out) where
  pub idle-pieces : (pieces : List (List ℕ)) → length (joined pieces) ≡ 0
      → (monitor_over (holding h []) pieces out ≡ holding h []) × (reports_over (holding h []) pieces out ≡ [])
  unfolding monitor_over reports_over
  idle-pieces [] e = (refl, refl)
  idle-pieces (p ∷ ps) e =
      let n = length-append p (joined ps) in
      let nothing : p ≡ [] = empty-list p (omega arith) in
      let next = idle-pieces ps (omega arith) in
      let c : call (holding h []) p out ≡ waiting_for (holding h []) [] out =
      ap (λ (l : List ℕ). call (holding h []) l out) nothing ∙ idle-call h out room in (
        ap (λ (x : Result). monitor_over x.outcome.monitor ps out) c ∙ next.0,
        ap (λ (x : Result). report_written x ++ reports_over x.outcome.monitor ps out) c ∙ next.1,
      )

module _ (r : Record) (box : List ℕ) (written : (write r box).answer ≡ Ok tt) (fits : FitRecord r) (out : List ℕ)
    (room : outbox_needed ≤ length out) where
  -- what comes of the pieces from a monitor m on
  abbrev Comes : Monitor → List (List ℕ) → Type 0
  Comes m pieces =
      (monitor_over m pieces out ≡ holding (stepped r m.hall).hall [])
      × (reports_over m pieces out ≡ report_of (stepped r m.hall).answer (stepped r m.hall).hall ∷ [])

  settled-report : (x : Stepped Hall) (n : ℕ) → writes_report x.answer ≡ true
      → report_written (settled_to x n out) ≡ report_of x.answer x.hall ∷ []
  settled-report x n t =
      rw t (ap (λ (l : List ℕ). l ∷ []) (take_at (report_of x.answer x.hall) (drop 40 out) 40 (report-length x.answer x.hall)))

  last-piece : (m : Monitor) (p : List ℕ) (ps : List (List ℕ)) → holds m ++ p ≡ bytes_of r → length (joined ps) ≡ 0 → Comes m (p ∷ ps)
  unfolding monitor_over reports_over
  last-piece m p ps here none_left =
      let x = stepped r m.hall in
      let c : call m p out ≡ settled_to x (length p) out =
      ap (λ (l : List ℕ). call m l out) (sym (append-nil p)) ∙ last-settles r box written fits m p [] out here room in
      let idle = idle-pieces x.hall out room ps none_left in (
        ap (λ (y : Result). monitor_over y.outcome.monitor ps out) c ∙ idle.0,
        ap (λ (y : Result). report_written y ++ reports_over y.outcome.monitor ps out) c
            ∙ ap₂ (λ (s t : List (List ℕ)). s ++ t) (settled-report x (length p) (stepped-reports r m.hall)) idle.1,
      )

  from-here : (pieces : List (List ℕ)) (m : Monitor) → holds m ++ joined pieces ≡ bytes_of r → length (holds m) < length (bytes_of r)
      → Comes m pieces
  unfolding monitor_over reports_over
  from-here [] m here short = let n = ap length here in absurd (omega (arith, length-append (holds m) []))
  from-here (p ∷ ps) m here short =
      by_size (below_or 0 (length (joined ps))) (from-here ps)
    where
      by_size : (0 < length (joined ps)) ⊎ (length (joined ps) ≤ 0)
          → ((k : Monitor) → holds k ++ joined ps ≡ bytes_of r → length (holds k) < length (bytes_of r) → Comes k ps) → Comes m (p ∷ ps)
      by_size (inl more) next =
          let c = rest-waits r box written m p (joined ps) out here more room in
          let all : (holds m ++ p) ++ joined ps ≡ bytes_of r = append_assoc (holds m) p (joined ps) ∙ here in
          let long = ap length all in
          let sum = length-append (holds m ++ p) (joined ps) in
          let most = bytes_most r in
          let k : Monitor = holding m.hall (holds m ++ p) in
          let held : holds k ≡ holds m ++ p = holds_same m.hall (holds m ++ p) (omega arith) in
          let then = next k (ap (λ (l : List ℕ). l ++ joined ps) held ∙ all) (rw held (omega arith)) in (
            ap (λ (y : Result). monitor_over y.outcome.monitor ps out) c ∙ then.0,
            ap (λ (y : Result). report_written y ++ reports_over y.outcome.monitor ps out) c ∙ then.1,
          )
      by_size (inr l) next =
          let nothing : joined ps ≡ [] = empty-list (joined ps) (omega arith) in
          let last : holds m ++ p ≡ bytes_of r =
          ap (λ (t : List ℕ). holds m ++ t) (sym (append-nil p) ∙ ap (λ (t : List ℕ). p ++ t) (sym nothing)) ∙ here in
          last-piece m p ps last (omega arith)

  -- cut anywhere, to a reader that holds nothing: one report, and the hall that the values lead to
  pub in_pieces : (m : Monitor) (pieces : List (List ℕ)) → holds m ≡ [] → joined pieces ≡ bytes_of r → Comes m pieces
  in_pieces m pieces empty cut =
      from-here pieces m (ap₂ (λ (s t : List ℕ). s ++ t) empty cut) (omega (arith, ap length empty, bytes-least r))
