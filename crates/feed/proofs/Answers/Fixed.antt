-- Demand 1 of a call: a condition fixes the answer. Assumes nothing.
use Rattle.std.proofs.Common.{◌≡◌, ℕ, ◌<◌, ◌≤◌, true, ◌⊎◌, List, [], ◌++◌, length, refl, ap, ◌∙◌, inl, inr, arith, lt-ltb}
use Rattle.cycle.specs.Hall.{stepped}
use Rattle.cycle.specs.declared.answer.Answer.{Answer}
use Rattle.cycle.specs.declared.answer.Answer.TheVariants.{Taken, Stale, Repeat, CountEnded, WrongKind, OutboxShort, MapRefused}
use Rattle.cycle.specs.declared.answer.Answer.TheVariants.{BothWays, NothingSettled}
use Rattle.cycle.specs.declared.hall.Hall.{Hall}
use Rattle.cycle.specs.declared.hall.Stepped.{Stepped}
use Rattle.feed.specs.Size.{outbox_needed}
use Rattle.feed.specs.Settled.{has_record, record_in, values_in}
use Rattle.feed.specs.Answered.{Condition}
use Rattle.feed.specs.Call.{holds, Result, called, call}
use Rattle.feed.specs.declared.call.Monitor.{Monitor}
use Rattle.feed.proofs.Records.Lengths.{below_or}
use Rattle.feed.proofs.Calls.Calling.{call-called}
use Rattle.feed.proofs.Calls.CallCases.{CallCase, none, some, call-case}
use Rattle.feed.proofs.Reading.FirstRecord.{record-none, record-some}
use Rattle.feed.proofs.Answers.StepAnswers.{repeat-step, stale-step, ended-step, wrong-step, right-step, both-ways-step}

-- ---- a condition fixes the answer

step_by : (h : Hall) (l : List ℕ) → has_record l ≡ true → (a : Answer) → Condition a h outbox_needed (record_in l)
    → (stepped (values_in l) h).answer ≡ a
step_by h l z Taken c = right-step h (record_in l) c.1 c.2 c.3 c.4
step_by h l z Stale c = stale-step h (record_in l) c.2
step_by h l z Repeat c = repeat-step h (record_in l) c.2
step_by h l z CountEnded c = ended-step h (record_in l) c.1 c.2
step_by h l z WrongKind c = wrong-step h (record_in l) c.1 c.2 c.3
step_by h l z OutboxShort c = absurd (omega arith)
step_by h l z MapRefused c = absurd c
step_by h l z BothWays c = both-ways-step h (record_in l) c.1 c.2 c.3 c.4
step_by h l z NothingSettled c = absurd (omega (arith, record-some l z, ap length c.1))

-- with room for a report it does not matter how much
room-alike : (a : Answer) (h : Hall) (room : ℕ) (r : List ℕ) → outbox_needed ≤ room → Condition a h room r → Condition a h outbox_needed r
room-alike Taken h room r l c = (omega arith, c.1, c.2, c.3, c.4)
room-alike Stale h room r l c = (omega arith, c.1, c.2)
room-alike Repeat h room r l c = (omega arith, c.1, c.2)
room-alike CountEnded h room r l c = (omega arith, c.1, c.2)
room-alike WrongKind h room r l c = (omega arith, c.1, c.2, c.3)
room-alike OutboxShort h room r l c = absurd (omega arith)
room-alike MapRefused h room r l c = c
room-alike BothWays h room r l c = (omega arith, c.1, c.2, c.3, c.4)
room-alike NothingSettled h room r l c = (omega arith, c.1)

-- no record, no answer but one
idle-by : (a : Answer) (h : Hall) (r : List ℕ) → r ≡ [] → Condition a h outbox_needed r → NothingSettled ≡ a
idle-by Taken h r e c = absurd (omega (arith, c.1.settled, ap length e))
idle-by Stale h r e c = absurd (omega (arith, c.1, ap length e))
idle-by Repeat h r e c = absurd (omega (arith, c.1, ap length e))
idle-by CountEnded h r e c = absurd (omega (arith, c.1.settled, ap length e))
idle-by WrongKind h r e c = absurd (omega (arith, c.1.settled, ap length e))
idle-by OutboxShort h r e c = absurd (omega arith)
idle-by MapRefused h r e c = absurd c
idle-by BothWays h r e c = absurd (omega (arith, c.1.settled, ap length e))
idle-by NothingSettled h r e c = refl

case-answer : (m : Monitor) (piece out : List ℕ) (c : Result) → CallCase m piece out c → (a : Answer)
    → Condition a m.hall outbox_needed (record_in (holds m ++ piece)) → c.outcome.answer ≡ a
case-answer m piece out c (none z) a w = idle-by a m.hall (record_in (holds m ++ piece)) (record-none (holds m ++ piece) z) w
case-answer m piece out c (some z held used x short fits back same) a w =
    ap (λ (y : Stepped Hall). y.answer) same ∙ step_by m.hall (holds m ++ piece) z a w

-- an outbox that is too short
pub short-call : (m : Monitor) (piece out : List ℕ) → length out < outbox_needed
    → call m piece out ≡ record { outcome = record { answer = OutboxShort; used = 0; monitor = m }; outbox = out }
unfolding call
short-call m piece out l = rw (lt-ltb (length out) outbox_needed l)

needs-room : (a : Answer) (h : Hall) (room : ℕ) (r : List ℕ) → room < outbox_needed → Condition a h room r → OutboxShort ≡ a
needs-room Taken h room r l c = absurd (omega (arith, c.0))
needs-room Stale h room r l c = absurd (omega (arith, c.0))
needs-room Repeat h room r l c = absurd (omega (arith, c.0))
needs-room CountEnded h room r l c = absurd (omega (arith, c.0))
needs-room WrongKind h room r l c = absurd (omega (arith, c.0))
needs-room OutboxShort h room r l c = refl
needs-room MapRefused h room r l c = absurd c
needs-room BothWays h room r l c = absurd (omega (arith, c.0))
needs-room NothingSettled h room r l c = absurd (omega (arith, c.0))

pub condition-answers : (m : Monitor) (piece out : List ℕ) (a : Answer)
    → Condition a m.hall (length out) (record_in (holds m ++ piece)) → (call m piece out).outcome.answer ≡ a
condition-answers m piece out a c = by (below_or (length out) outbox_needed)
  where
    r : List ℕ
    r = record_in (holds m ++ piece)

    by : (length out < outbox_needed) ⊎ (outbox_needed ≤ length out) → (call m piece out).outcome.answer ≡ a
    by (inl l) = ap (λ (x : Result). x.outcome.answer) (short-call m piece out l) ∙ needs-room a m.hall (length out) r l c
    by (inr l) =
        ap (λ (x : Result). x.outcome.answer) (call-called m piece out l)
        ∙ case-answer m piece out (called m piece out) (call-case m piece out) a (room-alike a m.hall (length out) r l c)
