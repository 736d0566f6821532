-- Calls that have handed in a whole feed, the last of which settled nothing, leave what the feed looked at all at once does.
-- Assumes nothing.
use Rattle.std.proofs.Common.{◌≡◌, ℕ, ◌<◌, ◌≤◌, false, ◌⊎◌, List, [], ◌∷◌, ◌++◌, length, sym, refl, ap, ◌∙◌, subst, inl, inr, append-nil, arith, lt-ltb}
use Rattle.bits.proofs.Yes.{not-both}
use Rattle.cycle.specs.Answers.{writes_report}
use Rattle.cycle.specs.Hall.{started}
use Rattle.cycle.specs.declared.answer.Answer.TheVariants.{OutboxShort, NothingSettled}
use Rattle.cycle.specs.declared.map.Masks.{Masks}
use Rattle.feed.specs.Size.{outbox_needed}
use Rattle.feed.specs.Reader.{settle}
use Rattle.feed.specs.Settled.{has_record, values_in}
use Rattle.feed.specs.Call.{holds, holding, Result, called, call}
use Rattle.feed.specs.Calls.{Made, monitor_after, taken_reports}
use Rattle.feed.specs.Calls.{LastIdle, Finished}
use Rattle.feed.specs.declared.call.Monitor.{Monitor}
use Rattle.feed.proofs.Records.Lengths.{below_or}
use Rattle.feed.proofs.Reading.Settling.{settle-append}
use Rattle.feed.proofs.Reading.Fronts.{waits-short}
use Rattle.feed.proofs.Calls.Turning.{holds_same}
use Rattle.feed.proofs.Calls.Steps.{stepped-reports}
use Rattle.feed.proofs.Calls.Calling.{call-called}
use Rattle.feed.proofs.Calls.CallCases.{CallCase, none, some, call-case}
use Rattle.feed.proofs.Cutting.AtOnce.{AtOnce, rests}
use Rattle.feed.proofs.Cutting.CallsAtOnce.{hands-at-once}

-- a call that settles nothing leaves what settling leaves, which waits
pub record Idle (m : Monitor) : Type 0 where
  pub waits : has_record (holds m) ≡ false
  pub settled : settle (holds m) ≡ holds m
  pub order : m ≡ holding m.hall (holds m)

idle-by : (m : Monitor) (piece out : List ℕ) (c : Result) → CallCase m piece out c → c.outcome.answer ≡ NothingSettled
    → Idle c.outcome.monitor
idle-by m piece out c (none z) e =
    let l : List ℕ = holds m ++ piece in
    let h : holds (holding m.hall (settle l)) ≡ settle l = holds_same m.hall (settle l) (waits-short l z) in
    let twice : settle (settle l) ≡ settle l =
    ap settle (sym (append-nil (settle l))) ∙ sym (settle-append l []) ∙ ap settle (append-nil l) in
    record { waits = rw (h, twice) z; settled = rw h twice; order = ap (holding m.hall) (sym h) }
idle-by m piece out c (some z held used x short fits back same) e =
    not-both (writes_report x.answer) (rw same (stepped-reports (values_in (holds m ++ piece)) m.hall)) (ap writes_report e)

-- an outbox too short answers 5
short-answer : (m : Monitor) (piece out : List ℕ) → length out < outbox_needed → (call m piece out).outcome.answer ≡ NothingSettled → ⊥
unfolding call
short-answer m piece out l e =
    let s : (call m piece out).outcome.answer ≡ OutboxShort = rw (lt-ltb (length out) outbox_needed l) refl in
    let z : ◌≡◌ {A = ℕ} 0 1 = cc in
    omega arith

pub call-idle : (m : Monitor) (piece out : List ℕ) → (call m piece out).outcome.answer ≡ NothingSettled
    → Idle (call m piece out).outcome.monitor
call-idle m piece out e = by (below_or (length out) outbox_needed)
  where
    by : (length out < outbox_needed) ⊎ (outbox_needed ≤ length out) → Idle (call m piece out).outcome.monitor
    by (inl l) = absurd (short-answer m piece out l e)
    by (inr l) =
        let s = call-called m piece out l in
        rw s (idle-by m piece out (called m piece out) (call-case m piece out) (rw s at e))

pub last-idle : (masks : List Masks) (cs : List Made) → LastIdle masks cs → Idle (monitor_after masks cs)
unfolding monitor_after
last-idle masks [] e = absurd e
last-idle masks (c ∷ cs) e = call-idle (monitor_after masks cs) c.piece c.outbox e

pub finished-at-once : (masks : List Masks) (feed : List ℕ) (cs : List Made) → Finished masks feed cs
    → AtOnce (started masks).hall feed (taken_reports masks cs) (monitor_after masks cs).hall (holds (monitor_after masks cs))
finished-at-once masks feed cs f =
    let m : Monitor = monitor_after masks cs in
    let i = last-idle masks cs f.last_idle in
    let n : holds m ++ [] ≡ holds m = append-nil (holds m) in
    subst (λ (t : List (List ℕ)). AtOnce (started masks).hall feed t m.hall (holds m)) (append-nil (taken_reports masks cs))
    (hands-at-once masks feed f.all_used [] m.hall (holds m) (rests (ap has_record n ∙ i.waits) (rw n (sym i.settled))))
