-- `OneOutcome` refuses what leaves a choice: half of a claim, silent on the result or on the outbox. Assumes nothing.
use mathlib.Core.Path.{◌≡◌, refl, ap}
use mathlib.Core.List.{List, [], ◌∷◌}
use Prim.Native.Nat.{ℕ, ◌<◌}
use native.Mathlib.Omega.{arith}
use lib.ListN.{length}
use denote.Bor.{Bor}
use denote.MutBor.{MutBor}
use Rattle.feed.specs.Call.{call, started_over}
use Rattle.cycle.specs.declared.answer.Answer.TheVariants.{Taken}
use Rattle.promises.specs.Outcomes.{OneOutcome}
use Rattle.cycle.specs.contracts.answer.Answer.number as answer-number
use Rattle.feed.specs.contracts.call.Monitor.call as monitor-call

-- the bound alone leaves the number open
pub bound-alone : OneOutcome answer-number.ended (λ κs a x s. x < 256) → ⊥
bound-alone one =
    let at_zero : 0 < 256 = omega arith in
    let at_one : 1 < 256 = omega arith in
    let same : ◌≡◌ {A = ℕ} 0 1 = (one tt (Taken, tt) 0 1 (tt, tt) (tt, tt) at_zero at_one).0 in
    absurd (omega arith)

-- what a call gives back leaves the outbox open
pub result-alone : OneOutcome monitor-call.ended (λ κs a x s. x ≡ (call a.0 a.1.0.now a.1.1.0.now).outcome) → ⊥
result-alone one =
    let lent : Bor (List ℕ) = record { ref_ptr = (0, 0); now = [] } in
    let outbox : MutBor (List ℕ) = record { ref_ptr = (0, 0); ghost_name = 0; now = [] } in
    let here = one ([], ([], tt)) ((started_over []).monitor, (lent, (outbox, tt))) _ _ (tt, (tt, ([], tt))) (tt, (tt, (0 ∷ [], tt))) in
    let longer : ◌≡◌ {A = ℕ} 0 1 = ap (λ w. length w.1.1.0) (here refl refl).1 in
    absurd (omega arith)
