-- Why the program ends, case by case. Assumes nothing.
use Rattle.std.proofs.Common.{◌≡◌, ℕ, ◌⊎◌, refl, ⊎_elim, arith, Result, Err}
use Rattle.lines.specs.Lines.{GivenUp, moved_of}
use Rattle.lines.specs.Ending.{EndedBy, why_at, ended_at}
use Rattle.lines.specs.declared.line.Moved.{Moved}
use Rattle.lines.specs.declared.line.Stop.{Stop}
use Rattle.lines.specs.declared.line.Stop.TheVariants as stop
use Rattle.lines.specs.declared.line.Stopped.{Stopped}
use Rattle.lines.specs.declared.ending.Ended.{Ended}
use Rattle.lines.specs.declared.ending.Why.{Why}
use Rattle.lines.specs.declared.ending.Why.TheVariants.{InputOver, OutputOver}

-- two reasons are not the same
never : {A : Type 0} → ◌≡◌ {A = ℕ} 0 1 → A
never e = absurd (omega arith)

abbrev ended : ℕ → Moved → Why → Ended
ended turns moved why = record { why = why; turns = turns; tries = moved.tries; answer = moved.answer; failure = moved.failure }

-- what is told of an end
pub ended-as-words : (over : Why) (turns : ℕ) (r : Result Moved Stopped) (why : Why) → why ≡ why_at over r
    → ended turns (moved_of r) why ≡ ended_at over turns r
ended-as-words over turns r why e = rw e refl

-- an end at a line that was given up
pub ended-at-line : (over : Why) (turns : ℕ) (stopped : Stopped) → (over ≡ InputOver) ⊎ (over ≡ OutputOver) → GivenUp stopped
    → (stopped.why ≡ stop.NoRoom → ⊥) → EndedBy (ended_at over turns (Err stopped))
ended-at-line over turns stopped o g room = by stopped.why refl
  where
    by : (why : Stop) → stopped.why ≡ why → EndedBy (ended_at over turns (Err stopped))
    by stop.Over e = rw e (record {
      over = λ i. g.over e;
      turned = λ i. ⊎_elim (λ j. never cc) (λ j. never cc) o;
      tried = λ i. ⊎_elim (λ j. never cc) (λ j. never cc) o;
    })
    by stop.OutOfTries e = rw e (record { over = ⊎_elim (λ i. never cc) (λ i. never cc); turned = λ i. never cc; tried = λ i. g.tried e })
    by stop.NoRoom e = absurd (room e)
