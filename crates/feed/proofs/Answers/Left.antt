-- Demand 1 of a call: what monitor and outbox are after each answer. Assumes nothing.
use Rattle.std.proofs.Common.{◌≡◌, ℕ, ◌+◌, ◌<◌, ◌≤◌, ◌⊎◌, List, ◌++◌, length, drop, sym, refl, ap, ◌∙◌, inl, inr}
use Rattle.cycle.specs.Answers.{is_taken}
use Rattle.cycle.specs.Records.{Record}
use Rattle.cycle.specs.Hall.{verdict_on, stepped_by, stepped}
use Rattle.cycle.specs.declared.answer.Answer.{Answer}
use Rattle.cycle.specs.declared.answer.Answer.TheVariants.{Taken}
use Rattle.cycle.specs.declared.hall.Stepped.{Stepped}
use Rattle.cycle.specs.Numbers.{Verdict}
use Rattle.std.specs.Prelude.{Ok, Err}
use Rattle.cycle.proofs.Verdicts.{Refusal, as_stale, as_repeat, as_ended, as_wrong, as_both_ways, verdict-refuses}
use Rattle.feed.specs.Report.{report_of}
use Rattle.feed.specs.Size.{outbox_needed, report_length}
use Rattle.feed.specs.Settled.{record_in, values_in}
use Rattle.feed.specs.Answered.{apart, Leaves}
use Rattle.feed.specs.Call.{holds, holding, Result, called, call}
use Rattle.feed.specs.declared.call.Monitor.{Monitor}
use Rattle.feed.proofs.Records.Lengths.{below_or}
use Rattle.feed.proofs.Calls.Calling.{call-called}
use Rattle.feed.proofs.Calls.CallCases.{CallCase, none, some, call-case}
use Rattle.feed.proofs.Answers.StepAnswers.{taken-number}
use Rattle.feed.proofs.Answers.Fixed.{short-call}
use Rattle.cycle.specs.declared.hall.Hall.{Hall}

-- a settled record, by the hall's verdict on it
abbrev result : Stepped Hall → ℕ → List ℕ → List ℕ → Result
result x used held out = record {
  outcome = record { answer = x.answer; used = used; monitor = holding x.hall held };
  outbox = report_of x.answer x.hall ++ drop report_length out;
}

refusal-leaves : {a : Answer} → Refusal a → (m : Monitor) (piece out held : List ℕ) (used : ℕ)
    → Leaves a m piece out (result (record { answer = a; hall = m.hall }) used held out)
refusal-leaves as_stale m piece out held used = (refl, refl)
refusal-leaves as_repeat m piece out held used = (refl, refl)
refusal-leaves as_ended m piece out held used = (refl, refl)
refusal-leaves as_wrong m piece out held used = (refl, refl)
refusal-leaves as_both_ways m piece out held used = (refl, refl)

leaves-step : (m : Monitor) (piece out held : List ℕ) (used : ℕ) (x : Stepped Hall) → x ≡ stepped (values_in (holds m ++ piece)) m.hall
    → Leaves x.answer m piece out (result x used held out)
unfolding stepped
leaves-step m piece out held used x e = by (verdict_on m.hall.n m.hall.masks r) refl e
  where
    r : Record
    r = values_in (holds m ++ piece)

    by : (v : Verdict) → verdict_on m.hall.n m.hall.masks r ≡ v → x ≡ stepped_by v r m.hall
        → Leaves x.answer m piece out (result x used held out)
    by (Err a) f q = rw q (refusal-leaves (verdict-refuses m.hall.n m.hall.masks r a f) m piece out held used)
    by (Ok next) f q =
        let n : x.hall.n ≡ m.hall.n + apart m.hall.n (record_in (holds m ++ piece)) =
        ap (λ (y : Stepped Hall). y.hall.n) e
        ∙ taken-number m.hall (record_in (holds m ++ piece))
        (ap (λ (y : Stepped Hall). is_taken y.answer) (sym e ∙ q)) in
        let a : x.answer ≡ Taken = ap (λ (y : Stepped Hall). y.answer) q in
        rw a (ap (λ (y : Stepped Hall). y.hall) e, n, refl)

leaves_by : (m : Monitor) (piece out : List ℕ) (c : Result) → CallCase m piece out c → Leaves c.outcome.answer m piece out c
leaves_by m piece out c (none z) = (refl, refl, refl)
leaves_by m piece out c (some z held used x short fits back same) = leaves-step m piece out held used x same

pub call-leaves : (m : Monitor) (piece out : List ℕ) → Leaves (call m piece out).outcome.answer m piece out (call m piece out)
call-leaves m piece out = by (below_or (length out) outbox_needed)
  where
    by : (length out < outbox_needed) ⊎ (outbox_needed ≤ length out)
        → Leaves (call m piece out).outcome.answer m piece out (call m piece out)
    by (inl l) = rw (short-call m piece out l) refl
    by (inr l) = rw (call-called m piece out l) (leaves_by m piece out (called m piece out) (call-case m piece out))
