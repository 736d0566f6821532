-- What a night keeper relies on in every report from fresh over an accepted map, and what a refusal leaves. Assumes nothing.
use Rattle.std.proofs.Common.{◌≡◌, ℕ, ◌+◌, ◌*◌, ◌<◌, ◌≤◌, true, false, ◌↔◌, List, ◌∷◌, ◌++◌, length, sym, refl, ap, ◌∙◌, subst, ap₂, arith}
use Rattle.bits.specs.Bit.{bit}
use Rattle.bits.proofs.Yes.{not-both}
use Rattle.cycle.specs.Size.{string_count, manifold_count}
use Rattle.cycle.specs.Answers.{is_taken, writes_report}
use Rattle.cycle.specs.Jets.{run}
use Rattle.cycle.specs.Map.{masks_of, InMask, FitMap, refused}
use Rattle.cycle.specs.declared.answer.Answer.{Answer}
use Rattle.cycle.specs.declared.answer.Answer.TheVariants.{Taken, Stale, Repeat, CountEnded, WrongKind, OutboxShort, MapRefused}
use Rattle.cycle.specs.declared.answer.Answer.TheVariants.{BothWays, NothingSettled}
use Rattle.cycle.specs.declared.hall.Hall.{Hall}
use Rattle.cycle.specs.declared.map.Masks.{Masks}
use Rattle.cycle.proofs.Answers.{taken-only}
use Rattle.cycle.proofs.Overrides.{inhibit-fails, reenable-free}
use Rattle.feed.specs.Size.{outbox_needed, strings_from, string_part, count_at}
use Rattle.feed.specs.Bytes.{four}
use Rattle.feed.specs.Settled.{record_in}
use Rattle.feed.specs.Answered.{Condition, Leaves}
use Rattle.feed.specs.Heard.{jet_history}
use Rattle.feed.specs.Call.{holds, holding, Result, call}
use Rattle.feed.specs.Calls.{Made, monitor_after, answer_of, report_in, taken_records}
use Rattle.feed.specs.declared.call.Monitor.{Monitor}
use Rattle.feed.proofs.Records.Lengths.{by-test}
use Rattle.feed.proofs.Calls.Turning.{holds_same}
use Rattle.feed.proofs.Calls.CallReads.{call-reads}
use Rattle.feed.proofs.Calls.CallRuns.{calls-kept, kept-number}
use Rattle.feed.proofs.Answers.Answered.{answers-exactly}
use Rattle.feed.proofs.Answers.Left.{call-leaves}
use Rattle.feed.proofs.Reports.ReportsTell.{reports-tell}

-- ---- inhibits, re-enables and the number, in reports

module _ (masks : List Masks) (fit : FitMap masks) (accepted : refused string_count masks ≡ false) (c : Made) (cs : List Made)
    (w : writes_report (answer_of masks c cs) ≡ true) where
  module _ (s i j : ℕ) (l : s < string_count) (below : i < manifold_count) (stands : InMask (masks_of masks s) i j) where
    pub inhibited-failed : (run (jet_history s i j (taken_records masks (c ∷ cs)))).over.inhibit ≡ true
        → bit j (four (report_in masks c cs) (strings_from + string_part * s)) ≡ true
    inhibited-failed e =
        (reports-tell masks fit accepted c cs w).fail s i j l below stands
        ∙ inhibit-fails (jet_history s i j (taken_records masks (c ∷ cs))) e

    pub reenabled-good : (run (jet_history s i j (taken_records masks (c ∷ cs)))).over.reenable ≡ true
        → bit j (four (report_in masks c cs) (strings_from + string_part * s)) ≡ false
    reenabled-good e =
        (reports-tell masks fit accepted c cs w).fail s i j l below stands
        ∙ reenable-free (jet_history s i j (taken_records masks (c ∷ cs))) e

  pub number-shown : four (report_in masks c cs) count_at ≡ (monitor_after masks (c ∷ cs)).hall.n
  number-shown =
      let kept = calls-kept masks fit accepted (c ∷ cs) in
      (reports-tell masks fit accepted c cs w).number ∙ sym (kept-number kept)

-- ---- any call on any state

module _ (m : Monitor) (piece out : List ℕ) where
  abbrev answered : Answer
  answered = (call m piece out).outcome.answer

  abbrev after : Monitor
  after = (call m piece out).outcome.monitor

  -- a record was answered, so there was room
  room_for : (a : Answer) → writes_report a ≡ true → Condition a m.hall (length out) (record_in (holds m ++ piece))
      → outbox_needed ≤ length out
  room_for Taken w c = c.0
  room_for Stale w c = c.0
  room_for Repeat w c = c.0
  room_for CountEnded w c = c.0
  room_for WrongKind w c = c.0
  room_for OutboxShort w c = not-both false w refl
  room_for MapRefused w c = not-both false w refl
  room_for BothWays w c = c.0
  room_for NothingSettled w c = not-both false w refl

  -- the number rises by at least one on answer 0
  rises : answered ≡ Taken → m.hall.n < after.hall.n
  rises e =
      let condition = (answers-exactly m piece out Taken).0 e in
      let left = subst (λ (a : Answer). Leaves a m piece out (call m piece out)) e (call-leaves m piece out) in
      omega (arith, left.1, condition.1.not_repeat)

  -- on any other the hall stays
  hall-stays : (a : Answer) → Leaves a m piece out (call m piece out) → is_taken a ≡ false → after.hall ≡ m.hall
  hall-stays Taken l e = not-both true refl e
  hall-stays Stale l e = l.0
  hall-stays Repeat l e = l.0
  hall-stays CountEnded l e = l.0
  hall-stays WrongKind l e = l.0
  hall-stays OutboxShort l e = ap (λ (x : Result). x.outcome.monitor.hall) l
  hall-stays MapRefused l e = absurd l
  hall-stays BothWays l e = l.0
  hall-stays NothingSettled l e = l.0

  rose : m.hall.n < after.hall.n → answered ≡ Taken
  rose l = by-test (is_taken answered) (taken-only answered)
      (λ t. absurd (omega (arith, ap (λ (h : Hall). h.n) (hall-stays answered (call-leaves m piece out) t))))

  pub number-rises : (answered ≡ Taken) ↔ (m.hall.n < after.hall.n)
  number-rises = (rises, rose)

  -- on answers 1 to 4 and 7 the monitor is the hall before with the bytes that the call left
  pub refused-keeps : writes_report answered ≡ true → is_taken answered ≡ false → after ≡ holding m.hall (holds after)
  refused-keeps w t =
      let read = call-reads m piece out (room_for answered w ((answers-exactly m piece out answered).0 refl)) in
      let held : holds after ≡ read.held = ap holds read.store ∙ holds_same after.hall read.held read.short in
      read.store ∙ ap₂ holding (hall-stays answered (call-leaves m piece out) t) (sym held)
