-- Calls that hand in a feed come to what the feed does when looked at all at once. Assumes nothing.
use Rattle.std.proofs.Common.{◌≡◌, ℕ, ◌≤◌, cond, List, [], ◌∷◌, ◌++◌, length, take, drop, sym, refl, ap, ◌∙◌, subst, append_assoc, take_at}
use lib.Seq.{drop-length}
use Rattle.cycle.specs.Answers.{is_taken}
use Rattle.cycle.specs.Hall.{started}
use Rattle.cycle.specs.declared.hall.Hall.{Hall}
use Rattle.cycle.specs.declared.hall.Stepped.{Stepped}
use Rattle.cycle.specs.declared.map.Masks.{Masks}
use Rattle.feed.specs.Size.{outbox_needed, report_length}
use Rattle.feed.specs.Reader.{settle}
use Rattle.feed.specs.Report.{report_of, report_taken}
use Rattle.feed.specs.Settled.{behind_in}
use Rattle.feed.specs.Call.{holds, Result, called, call, started_over}
use Rattle.feed.specs.Calls.{Made, monitor_after, taken_reports, Hands, starts, calls}
use Rattle.feed.specs.declared.call.Monitor.{Monitor}
use Rattle.feed.proofs.Reading.Settling.{settle-append}
use Rattle.feed.proofs.Reading.Fronts.{waits-short}
use Rattle.feed.proofs.Reports.ReportLengths.{report-length}
use Rattle.feed.proofs.Calls.Turning.{holds_same}
use Rattle.feed.proofs.Calls.Calling.{call-called}
use Rattle.feed.proofs.Calls.CallCases.{CallCase, none, some, call-case}
use Rattle.feed.proofs.Cutting.AtOnce.{AtOnce, steps, step_on, at-once-same, ahead, step-ahead}

-- the report of a call that answers 0
abbrev told : Result → List (List ℕ)
told c = cond (is_taken c.outcome.answer) (take report_length c.outbox ∷ []) []

told-step : (x : Stepped Hall) (out : List ℕ)
    → cond (is_taken x.answer) (take report_length (report_of x.answer x.hall ++ out) ∷ []) [] ≡ report_taken x
told-step x out =
    ap (λ (l : List ℕ). cond (is_taken x.answer) (l ∷ []) [])
    (take_at (report_of x.answer x.hall) out report_length (report-length x.answer x.hall))

-- one call, with q behind its piece
abbrev Before : Monitor → List ℕ → List ℕ → Result → Type 0
Before m piece q c =
    (rs : List (List ℕ)) (e : Hall) (w : List ℕ)
    → AtOnce c.outcome.monitor.hall (holds c.outcome.monitor ++ (drop c.outcome.used piece ++ q)) rs e w
    → AtOnce m.hall (holds m ++ (piece ++ q)) (told c ++ rs) e w

before-by : (m : Monitor) (piece out q : List ℕ) (c : Result) → CallCase m piece out c → Before m piece q c
before-by m piece out q c (none z) rs e w a =
    let l : List ℕ = holds m ++ piece in
    let back : settle (settle l ++ q) ≡ settle (holds m ++ (piece ++ q)) =
    sym (settle-append l q) ∙ ap settle (append_assoc (holds m) piece q) in
    let b : AtOnce m.hall (settle l ++ ([] ++ q)) rs e w =
    rw (holds_same m.hall (settle l) (waits-short l z), drop-length piece) at a in
    at-once-same (holds m ++ (piece ++ q)) back b
before-by m piece out q c (some z held used x short fits back same) rs e w a =
    let l : List ℕ = holds m ++ piece in
    let f = ahead l q z in
    let g : step_on m.hall (l ++ q) ≡ x = step-ahead m.hall l q f ∙ sym same in
    let n : held ++ (drop used piece ++ q) ≡ behind_in (l ++ q) =
    sym (append_assoc held (drop used piece) q) ∙ ap (λ (t : List ℕ). t ++ q) back ∙ sym f.behind in
    let b : AtOnce (step_on m.hall (l ++ q)).hall (behind_in (l ++ q)) rs e w =
    rw (g, ← n) (rw (holds_same x.hall held short) at a) in
    rw (← append_assoc (holds m) piece q, told-step x (drop report_length out), ← g)
    (steps f.there b refl)

pub call-at-once : (m : Monitor) (piece out q : List ℕ) → outbox_needed ≤ length out → Before m piece q (call m piece out)
call-at-once m piece out q room =
    rw (call-called m piece out room) (before-by m piece out q (called m piece out) (call-case m piece out))

-- ---- the calls of a feed

-- what is still to come, and what came before it
pub hands-at-once : (masks : List Masks) (feed : List ℕ) {cs : List Made} {left : List ℕ} → Hands masks feed cs left
    → (rs : List (List ℕ)) (e : Hall) (w : List ℕ)
    → AtOnce (monitor_after masks cs).hall (holds (monitor_after masks cs) ++ left) rs e w
    → AtOnce (started masks).hall feed (taken_reports masks cs ++ rs) e w
unfolding monitor_after taken_reports started_over
hands-at-once masks feed starts rs e w a = a
hands-at-once masks feed (calls {cs} {left} {c = c} rest room before front after) rs e w a =
    let m : Monitor = monitor_after masks cs in
    let x : Result = call m c.piece c.outbox in
    let b : AtOnce x.outcome.monitor.hall (holds x.outcome.monitor ++ (drop x.outcome.used c.piece ++ rest)) rs e w =
    subst (λ (t : List ℕ). AtOnce x.outcome.monitor.hall (holds x.outcome.monitor ++ t) rs e w) after a in
    let d : AtOnce m.hall (holds m ++ left) (told x ++ rs) e w =
    subst (λ (t : List ℕ). AtOnce m.hall (holds m ++ t) (told x ++ rs) e w) (sym front)
    (call-at-once m c.piece c.outbox rest room rs e w b) in
    subst (λ (t : List (List ℕ)). AtOnce (started masks).hall feed t e w) (sym (append_assoc (taken_reports masks cs) (told x) rs))
    (hands-at-once masks feed before (told x ++ rs) e w d)
