-- What is done at a line: which failures are tried again, and when the line is given up. Assumes nothing.
use Rattle.std.specs.Prelude.{◌≡◌, Bool, false, ◌||◌, ◌⊎◌, ℕ, ◌≤◌, ◌<◌, ◌≢◌, eqb, ℤ, pos, negsuc, Result, Ok, Err, IfOk, IfErr}
use Rattle.lines.specs.declared.line.Moved.{Moved}
use Rattle.lines.specs.declared.line.Stop.TheVariants.{Over, OutOfTries, NoRoom}
use Rattle.lines.specs.declared.line.Stopped.{Stopped}

-- the largest count: of turns, and of tries at a line
abbrev pub largest_count : ℕ
largest_count = 18446744073709551615

-- the failures that pass: 11, a line that has nothing ready or can take nothing now (EAGAIN), and 4, a call that was interrupted (EINTR)
abbrev pub passes : ℤ → Bool
passes (pos n) = eqb n 11 || eqb n 4
passes (negsuc n) = false

-- the system said that a line is over: it answered 0 to the last call, as at the end of the input, or -1, and the failure is one that does
-- not pass
abbrev pub SaidOver : (answer failure : ℤ) → Type 0
SaidOver answer failure = (answer ≡ pos 0) ⊎ ((answer ≡ negsuc 0) × (passes failure ≡ false))

-- when a line is given up: it is over only where the system said so, and there is want of tries only after the largest count of them
pub record GivenUp (stopped : Stopped) : Type 0 where
  pub over : stopped.why ≡ Over → SaidOver stopped.moved.answer stopped.moved.failure
  pub tried : stopped.why ≡ OutOfTries → stopped.moved.tries ≡ largest_count

-- what went over a line, open or not
abbrev pub moved_of : Result Moved Stopped → Moved
moved_of (Ok moved) = moved
moved_of (Err stopped) = stopped.moved

-- what a read or a write says of a line that had so many bytes to fill or to give
pub record Told (most : ℕ) (r : Result Moved Stopped) : Type 0 where
  pub within : (moved_of r).bytes ≤ most
  pub given_up : IfErr r GivenUp

-- what is said where the system was not asked: no bytes, no tries, and as answer and failure 1 and EAGAIN, at which no line is over
abbrev pub unasked : Moved
unasked = record { bytes = 0; tries = 0; answer = pos 1; failure = pos 11 }

-- a read that says that the line is open brought something; into no buffer the system was not asked
pub record Read (most : ℕ) (r : Result Moved Stopped) : Type 0 where
  pub told : Told most r
  pub some : IfOk r (λ moved. 0 < moved.bytes)
  pub full : IfErr r (λ stopped. stopped.why ≡ NoRoom → most ≡ 0)
  pub none : most ≡ 0 → r ≡ Err (record { why = NoRoom; moved = unasked })

-- a read of the first bytes says that the line is open exactly where those that are wanted are there; there is no room only where the
-- buffer is full; where none are wanted the system was not asked
pub record First (wanted most : ℕ) (r : Result Moved Stopped) : Type 0 where
  pub told : Told most r
  pub enough : IfOk r (λ moved. wanted ≤ moved.bytes)
  pub short : IfErr r (λ stopped. stopped.moved.bytes < wanted)
  pub full : IfErr r (λ stopped. stopped.why ≡ NoRoom → stopped.moved.bytes ≡ most)
  pub none : wanted ≡ 0 → r ≡ Ok unasked

-- a write that says that the line is open took everything, and a write needs no room; with nothing to write the system was not asked
pub record Written (most : ℕ) (r : Result Moved Stopped) : Type 0 where
  pub told : Told most r
  pub all : IfOk r (λ moved. moved.bytes ≡ most)
  pub full : IfErr r (λ stopped. stopped.why ≢ NoRoom)
  pub none : most ≡ 0 → r ≡ Ok unasked
