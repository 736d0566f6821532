-- What is said of a line, case by case. Assumes nothing.
use Rattle.std.proofs.Common.{◌≡◌, ℕ, ◌+◌, ◌<◌, refl, arith, Result, Ok, Err}
use Rattle.lines.specs.Lines.{unasked, Read, First}
use Rattle.lines.specs.declared.line.Moved.{Moved}
use Rattle.lines.specs.declared.line.Stopped.{Stopped}

-- n bytes, and for the rest what was told of a line
abbrev pub behind : ℕ → Moved → Moved
behind n moved = record { bytes = n; tries = moved.tries; answer = moved.answer; failure = moved.failure }

-- where none were wanted, and nothing was read
pub none-wanted : (n : ℕ) (got : Moved) → n ≡ 0 → got ≡ unasked → ◌≡◌ {A = Result Moved Stopped} (Ok (behind n got)) (Ok unasked)
none-wanted n got e f = rw (e, f) refl

-- a read behind n bytes that were there, at which the line was given up or had no room
pub first-shut : (wanted most n rest : ℕ) (stopped : Stopped) → n < wanted → n + rest ≡ most → Read rest (Err stopped)
    → First wanted most (Err (record { why = stopped.why; moved = behind n stopped.moved }))
first-shut wanted most n rest stopped few all read = record {
  told = record { within = omega arith; given_up = record { over = read.told.given_up.over; tried = read.told.given_up.tried } };
  enough = tt;
  short = few;
  full = λ e. omega (arith, read.full e);
  none = λ e. absurd (omega (arith, few));
}
