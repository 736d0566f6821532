-- Demand 3, cutting: however a feed is cut, and whatever whole stale or repeated records are put in where the reader holds no bytes, the
-- reports that answer 0 are the same bytes and the end state is the same. Assumes nothing.
use Rattle.std.proofs.Common.{◌≡◌, ℕ, List, [], ◌++◌, sym, refl, ap, ◌∙◌, subst, ap₂, inl, inr}
use Rattle.cycle.specs.Numbers.{judged}
use Rattle.cycle.specs.Records.{Record, major_kind, common}
use Rattle.cycle.specs.Hall.{started, stepped_by, stepped}
use Rattle.cycle.specs.declared.answer.Answer.{Answer}
use Rattle.cycle.specs.declared.answer.Answer.TheVariants.{Stale, Repeat}
use Rattle.cycle.specs.declared.hall.Hall.{Hall}
use Rattle.cycle.specs.declared.hall.Stepped.{Stepped}
use Rattle.cycle.specs.declared.map.Masks.{Masks}
use Rattle.cycle.specs.Numbers.{Verdict}
use Rattle.std.specs.Prelude.{Err}
use Rattle.cycle.proofs.Numbers.{judged-repeat, judged-stale}
use Rattle.cycle.proofs.Verdicts.{verdict-refused}
use Rattle.feed.specs.Values.{values_of}
use Rattle.feed.specs.Good.{WholeRecord}
use Rattle.feed.specs.Settled.{behind_in}
use Rattle.feed.specs.Report.{report_taken}
use Rattle.feed.specs.Call.{holds, holding}
use Rattle.feed.specs.Calls.{Made, monitor_after, taken_reports, Finished}
use Rattle.feed.specs.PutIn.{Old, PutIn, same, puts}
use Rattle.feed.specs.declared.call.Monitor.{Monitor}
use Rattle.feed.proofs.Records.Told.{wire-of}
use Rattle.feed.proofs.Reading.FirstRecord.{stands-first}
use Rattle.feed.proofs.Cutting.AtOnce.{AtOnce, steps, step_on, at-once-fixed, at-once-append, at-once-ends}
use Rattle.feed.proofs.Cutting.FeedEnds.{last-idle, finished-at-once}

-- ---- a stale or repeated record changes nothing

refused-step : (h : Hall) (r : Record) (a : Answer) → judged h.n (common r).wire (major_kind r) ≡ Err a
    → stepped r h ≡ record { answer = a; hall = h }
unfolding stepped
refused-step h r a e = ap (λ (v : Verdict). stepped_by v r h) (verdict-refused h.n h.masks r a e)

-- no step, and no report that answers 0
abbrev Idles : Hall → Stepped Hall → Type 0
Idles h x = (x.hall ≡ h) × (report_taken x ≡ [])

old-idles : (h : Hall) (r : List ℕ) → Old h.n r → Idles h (stepped (values_of r) h)
old-idles h r (inl e) =
    let v : Record = values_of r in
    let s = refused-step h v Repeat (judged-repeat h.n (common v).wire (major_kind v) (rw (wire-of r) e)) in
    rw s (refl, refl)
old-idles h r (inr e) =
    let v : Record = values_of r in
    let s = refused-step h v Stale (judged-stale h.n (common v).wire (major_kind v) (rw (wire-of r) e)) in
    rw s (refl, refl)

old-at-once : (h e : Hall) (r q w : List ℕ) (rs : List (List ℕ)) → WholeRecord r → Old h.n r → AtOnce h q rs e w
    → AtOnce h (r ++ q) rs e w
old-at-once h e r q w rs whole old a =
    let x = stands-first r q whole in
    let idle : Idles h (step_on h (r ++ q)) =
    subst (λ (t : List ℕ). Idles h (stepped (values_of t) h)) (sym x.first) (old-idles h r old) in
    let rest : AtOnce (step_on h (r ++ q)).hall (behind_in (r ++ q)) rs e w = rw (x.behind, idle.0) a in
    steps x.there rest (ap (λ (t : List (List ℕ)). t ++ rs) (sym idle.1))

-- ---- records put in

pub put-in-at-once : (masks : List Masks) (feed : List ℕ) {longer : List ℕ} → PutIn masks feed longer
    → (rs : List (List ℕ)) (e : Hall) (w : List ℕ) → AtOnce (started masks).hall feed rs e w
    → AtOnce (started masks).hall longer rs e w
put-in-at-once masks feed same rs e w a = a
put-in-at-once masks feed (puts before r after n p clear whole old l) rs e w a =
    let h : Hall = (started masks).hall in
    let m : Monitor = monitor_after masks clear.calls in
    let front : AtOnce h before (taken_reports masks clear.calls) m.hall [] =
    rw clear.empty at (finished-at-once masks before clear.calls clear.finished) in
    let rest = at-once-ends m.hall after in
    let plain : AtOnce h (before ++ after) (taken_reports masks clear.calls ++ rest.reports) rest.hall rest.waiting =
    at-once-append after front rest.all in
    let s = at-once-fixed plain (put-in-at-once masks feed p rs e w a) in
    let now : Old m.hall.n r = rw clear.number old in
    let more : AtOnce h (before ++ (r ++ after)) (taken_reports masks clear.calls ++ rest.reports) rest.hall rest.waiting =
    at-once-append (r ++ after) front (old-at-once m.hall rest.hall r after rest.waiting rest.reports whole now rest.all) in
    rw (l, ← s.reports, ← s.hall, ← s.waiting) more

-- ---- the theorem

-- the reports that answer 0, byte for byte, and the end state
pub record Alike (masks : List Masks) (cs ds : List Made) : Type 0 where
  pub reports : taken_reports masks cs ≡ taken_reports masks ds
  pub monitor : monitor_after masks cs ≡ monitor_after masks ds

pub cut-anywhere : (masks : List Masks) (feed longer : List ℕ) → PutIn masks feed longer
    → (cs ds : List Made) → Finished masks feed cs → Finished masks longer ds → Alike masks cs ds
cut-anywhere masks feed longer p cs ds x y =
    let m : Monitor = monitor_after masks cs in
    let k : Monitor = monitor_after masks ds in
    let a = finished-at-once masks feed cs x in
    let b = finished-at-once masks longer ds y in
    let s = at-once-fixed (put-in-at-once masks feed p (taken_reports masks cs) m.hall (holds m) a) b in
    record {
      reports = s.reports;
      monitor =
          (last-idle masks cs x.last_idle).order
          ∙ ap₂ (λ (t : Hall) (l : List ℕ). holding t l) s.hall s.waiting
          ∙ sym (last-idle masks ds y.last_idle).order;
    }
