-- Why a program ends that reads and writes in turns. Assumes nothing.
use Rattle.std.specs.Prelude.{◌≡◌, ◌⊎◌, ℕ, Result, Ok, Err}
use Rattle.lines.specs.Lines.{largest_count, SaidOver, moved_of}
use Rattle.lines.specs.declared.line.Moved.{Moved}
use Rattle.lines.specs.declared.line.Stop.{Stop}
use Rattle.lines.specs.declared.line.Stop.TheVariants as stop
use Rattle.lines.specs.declared.line.Stopped.{Stopped}
use Rattle.lines.specs.declared.ending.Ended.{Ended}
use Rattle.lines.specs.declared.ending.Why.{Why}
use Rattle.lines.specs.declared.ending.Why.TheVariants.{InputOver, OutputOver, OutOfTurns, OutOfTries}

-- the program ends at a line only where the system said that it is over, and for want of turns or of tries only after the largest count of
-- them
pub record EndedBy (r : Ended) : Type 0 where
  pub over : (r.why ≡ InputOver) ⊎ (r.why ≡ OutputOver) → SaidOver r.answer r.failure
  pub turned : r.why ≡ OutOfTurns → r.turns ≡ largest_count
  pub tried : r.why ≡ OutOfTries → r.tries ≡ largest_count

-- why, at a line: there are no tries left, or else what `over` says
abbrev pub why_stopped : Why → Stop → Why
why_stopped over stop.Over = over
why_stopped over stop.OutOfTries = OutOfTries
why_stopped over stop.NoRoom = over

abbrev pub why_at : Why → Result Moved Stopped → Why
why_at over (Ok moved) = over
why_at over (Err stopped) = why_stopped over stopped.why

-- what is told of an end at a line is what was told of the line
abbrev pub ended_at : (over : Why) (turns : ℕ) (r : Result Moved Stopped) → Ended
ended_at over turns r = record {
  why = why_at over r;
  turns = turns;
  tries = (moved_of r).tries;
  answer = (moved_of r).answer;
  failure = (moved_of r).failure;
}
