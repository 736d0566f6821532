-- The step that a program repeats is calls that hand in a feed, as demand 3 speaks of them. Assumes nothing.
use Rattle.std.proofs.Common.{◌≡◌, ℕ, zero, suc, ◌+◌, ◌-◌, ◌<◌, ◌≤◌, true, false, cond, List, [], ◌∷◌, ◌++◌, length, take, drop, sym, refl, ap, ◌∙◌, subst, ⊎_elim, append_assoc, append-nil, arith, length-append, length-drop, drop-drop, take_at}
use Rattle.bits.proofs.Yes.{not-both}
use Rattle.cycle.specs.Answers.{writes_report}
use Rattle.cycle.specs.declared.answer.Answer.TheVariants.{NothingSettled}
use Rattle.cycle.specs.declared.map.Masks.{Masks}
use Rattle.feed.specs.Size.{report_length, outbox_needed}
use Rattle.feed.specs.Settled.{values_in}
use Rattle.feed.specs.Call.{holds, Result, called, Reported, runs_within, runs}
use Rattle.feed.specs.Calls.{Made, monitor_after, result_of, answer_of, report_in, Hands, calls}
use Rattle.feed.specs.Batch.{all_reports, AllSettled, LastAlone, Continues}
use Rattle.feed.specs.declared.call.Monitor.{Monitor}
use Rattle.feed.specs.declared.call.Outcome.{Outcome}
use Rattle.feed.proofs.Records.Lengths.{by-test, below_or}
use Rattle.feed.proofs.Calls.Steps.{stepped-reports}
use Rattle.feed.proofs.Calls.Calling.{call-called}
use Rattle.feed.proofs.Calls.CallBounds.{used-within, Written, call-written}
use Rattle.feed.proofs.Calls.RunLaws.{runs-full, runs-more, runs_last}
use Rattle.feed.proofs.Calls.CallCases.{CallCase, none, some, call-case}
use Rattle.feed.proofs.Cutting.Finishing.{room, room-enough}

-- a call that settles no record says so and uses its piece up
pub idle-by : (m : Monitor) (piece out : List ℕ) (c : Result) → CallCase m piece out c → writes_report c.outcome.answer ≡ false
    → (c.outcome.answer ≡ NothingSettled) × (c.outcome.used ≡ length piece)
idle-by m piece out c (none z) e = (refl, refl)
idle-by m piece out c (some z held used x short fits back same) e =
    not-both (writes_report x.answer) (rw same (stepped-reports (values_in (holds m ++ piece)) m.hall)) e

-- the call that the definition makes, with room for its report
module _ (masks : List Masks) (cs : List Made) (piece : List ℕ) where
  abbrev m : Monitor
  m = monitor_after masks cs

  abbrev c : Result
  c = called m piece []

  abbrev made : Made
  made = record { piece = piece; outbox = room }

  written : Written (called m piece room) c room
  written = call-written m piece room

  same_outcome : (result_of masks made cs).outcome ≡ c.outcome
  same_outcome = ap (λ (x : Result). x.outcome) (call-called m piece room room-enough) ∙ written.outcome

  report-same : writes_report c.outcome.answer ≡ true
      → cond (writes_report (answer_of masks made cs)) (report_in masks made cs) [] ≡ c.outbox
  report-same e =
      let w = written.report e in
      let a : writes_report (answer_of masks made cs) ≡ true =
      ap (λ (x : Outcome Monitor). writes_report x.answer) same_outcome ∙ e in
      let o : report_in masks made cs ≡ c.outbox =
      ap (λ (x : Result). take report_length x.outbox) (call-called m piece room room-enough)
      ∙ ap (take report_length) w.0
      ∙ take_at c.outbox (drop report_length room) report_length w.1 in
      rw (a, o) refl

  report-none : writes_report c.outcome.answer ≡ false → cond (writes_report (answer_of masks made cs)) (report_in masks made cs) [] ≡ []
  report-none e =
      let a : writes_report (answer_of masks made cs) ≡ false =
      ap (λ (x : Outcome Monitor). writes_report x.answer) same_outcome ∙ e in
      rw a refl

-- a call more before the others
settled-behind : (masks : List Masks) (first : Made) (cs ys : List Made) → writes_report (answer_of masks first cs) ≡ true
    → AllSettled masks ys (first ∷ cs) → AllSettled masks (ys ++ (first ∷ [])) cs
settled-behind masks first cs [] e s = (e, tt)
settled-behind masks first cs (y ∷ ys) e s =
    (rw (append_assoc ys (first ∷ []) cs) s.0, settled-behind masks first cs ys e s.1)

last-behind : (masks : List Masks) (first : Made) (cs ys : List Made) → writes_report (answer_of masks first cs) ≡ true
    → LastAlone masks ys (first ∷ cs) → LastAlone masks (ys ++ (first ∷ [])) cs
last-behind masks first cs [] e s = absurd s
last-behind masks first cs (y ∷ ys) e s =
    (rw (append_assoc ys (first ∷ []) cs) s.0, settled-behind masks first cs ys e s.1)

module _ (masks : List Masks) (feed behind : List ℕ) where
  abbrev Batch : ℕ → Type 0
  Batch most = (room : ℕ) → room ≤ most → (cs : List Made) (piece : List ℕ) → Hands masks feed cs (piece ++ behind)
      → Continues masks feed cs piece behind room (runs_within most room (monitor_after masks cs) piece)

  -- the call is made
  handed : (cs : List Made) (piece : List ℕ) → Hands masks feed cs (piece ++ behind)
      → Hands masks feed (made masks cs piece ∷ cs) (drop (c masks cs piece).outcome.used piece ++ behind)
  handed cs piece h =
      calls behind room-enough h refl (ap (λ (x : Outcome Monitor). drop x.used piece ++ behind) (sym (same_outcome masks cs piece)))

  -- there is no room for a call
  full : (most room : ℕ) (cs : List Made) (piece : List ℕ) → Hands masks feed cs (piece ++ behind) → room < outbox_needed
      → Continues masks feed cs piece behind room (runs_within most room (monitor_after masks cs) piece)
  full most room cs piece h l = rw (runs-full most room (monitor_after masks cs) piece l) (record {
    more = [];
    fits = omega arith;
    within = omega arith;
    full = λ z. (tt, omega arith);
    hands = h;
    monitor = refl;
    reports = sym (append-nil (all_reports masks cs));
    idle = λ z. not-both true refl z;
  })

  module _ (most room : ℕ) (cs : List Made) (piece : List ℕ) (h : Hands masks feed cs (piece ++ behind)) (l : outbox_needed ≤ room) where
    last : writes_report (called (monitor_after masks cs) piece []).outcome.answer ≡ false
        → Continues masks feed cs piece behind room (runs_within (suc most) room (monitor_after masks cs) piece)
    unfolding monitor_after all_reports
    last e =
        let same = same_outcome masks cs piece in
        let i = idle-by (m masks cs piece) piece [] (c masks cs piece) (call-case (m masks cs piece) piece []) e in
        rw (runs_last most room (monitor_after masks cs) piece l e) (record {
          more = made masks cs piece ∷ [];
          fits = omega arith;
          within = used-within (m masks cs piece) piece [];
          full = λ y. not-both false y refl;
          hands = handed cs piece h;
          monitor = ap (λ (x : Outcome Monitor). x.monitor) same;
          reports = ap (λ (t : List ℕ). all_reports masks cs ++ t) (report-none masks cs piece e);
          idle = λ y. ((ap (λ (x : Outcome Monitor). x.answer) same ∙ i.0, tt), i.1);
        })

    more : room ≤ suc most → Batch most → writes_report (called (monitor_after masks cs) piece []).outcome.answer ≡ true
        → Continues masks feed cs piece behind room (runs_within (suc most) room (monitor_after masks cs) piece)
    unfolding monitor_after all_reports
    more enough next e =
        let one : Result = c masks cs piece in
        let first : Made = made masks cs piece in
        let after : monitor_after masks (first ∷ cs) ≡ one.outcome.monitor =
        ap (λ (x : Outcome Monitor). x.monitor) (same_outcome masks cs piece) in
        let rest : List ℕ = drop one.outcome.used piece in
        let long = ((written masks cs piece).report e).1 in
        let left : ℕ = room - length one.outbox in
        let r : Reported = runs_within most left one.outcome.monitor rest in
        let y : Continues masks feed (first ∷ cs) rest behind left r =
        subst (Continues masks feed (first ∷ cs) rest behind left) (ap (λ (x : Monitor). runs_within most left x rest) after)
        (next left (omega arith) (first ∷ cs) rest (handed cs piece h)) in
        let all : (y.more ++ (first ∷ [])) ++ cs ≡ y.more ++ (first ∷ cs) = append_assoc y.more (first ∷ []) cs in
        let far : drop r.used rest ≡ drop (one.outcome.used + r.used) piece = drop-drop r.used one.outcome.used piece in
        let sum = length-append one.outbox r.reports in
        let settled : writes_report (answer_of masks first cs) ≡ true =
        ap (λ (x : Outcome Monitor). writes_report x.answer) (same_outcome masks cs piece) ∙ e in
        rw (runs-more most room (monitor_after masks cs) piece l e) (record {
          more = y.more ++ (first ∷ []);
          fits = omega (arith, y.fits, sum, long);
          within = omega (arith, y.within, used-within (monitor_after masks cs) piece [], length-drop one.outcome.used piece);
          full = λ z. let f = y.full z in (settled-behind masks first cs y.more settled f.0, omega (arith, f.1, sum, long));
          hands = rw (all, ← far) y.hands;
          monitor = rw all y.monitor;
          reports = rw all
              (y.reports
              ∙ ap (λ (t : List ℕ). (all_reports masks cs ++ t) ++ r.reports) (report-same masks cs piece e)
              ∙ append_assoc (all_reports masks cs) one.outbox r.reports);
          idle = λ z.
              let i = y.idle z in
              let w = used-within (monitor_after masks cs) piece [] in
              let n : one.outcome.used + r.used ≡ length piece = omega (arith, i.1, length-drop one.outcome.used piece) in
              (last-behind masks first cs y.more settled i.0, n);
        })

  batch : (most : ℕ) → Batch most
  batch zero room enough cs piece h = full zero room cs piece h (omega arith)
  batch (suc most) room enough cs piece h = ⊎_elim (λ l. full (suc most) room cs piece h l)
      (λ l. by-test (writes_report (called (monitor_after masks cs) piece []).outcome.answer)
      (more most room cs piece h l enough (batch most)) (last most room cs piece h l))
      (below_or room outbox_needed)

  pub batch-continues : (room : ℕ) (cs : List Made) (piece : List ℕ) → Hands masks feed cs (piece ++ behind)
      → Continues masks feed cs piece behind room (runs room (monitor_after masks cs) piece)
  batch-continues room cs piece h = batch room room (omega arith) cs piece h
