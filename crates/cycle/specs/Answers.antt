-- 01, "Which answer a record gets": the table, a row for each answer; 02, order 4: "The refusals are now seven." Assumes nothing.
use Rattle.std.specs.Prelude.{ℕ, Bool, true, false}
use Rattle.cycle.specs.declared.answer.Answer.{Answer}
use Rattle.cycle.specs.declared.answer.Answer.TheVariants.{Taken, Stale, Repeat, CountEnded, WrongKind, OutboxShort, MapRefused}
use Rattle.cycle.specs.declared.answer.Answer.TheVariants.{BothWays, NothingSettled}

-- The columns: "no."; "monitor", stepped or as before (6 starts over the empty map); "outbox", a report or untouched.
pub record Row : Type 0 where
  pub number : ℕ
  pub stepped : Bool
  pub reported : Bool

-- a call that settles nothing says so, which is no refusal and has no number of the table
abbrev pub row : Answer → Row
row Taken = record { number = 0; stepped = true; reported = true }
row Stale = record { number = 1; stepped = false; reported = true }
row Repeat = record { number = 2; stepped = false; reported = true }
row CountEnded = record { number = 3; stepped = false; reported = true }
row WrongKind = record { number = 4; stepped = false; reported = true }
row OutboxShort = record { number = 5; stepped = false; reported = false }
row MapRefused = record { number = 6; stepped = false; reported = false }
-- 02, order 4: "answer 7, .. monitor as before, report written"
row BothWays = record { number = 7; stepped = false; reported = true }
row NothingSettled = record { number = 255; stepped = false; reported = false }

abbrev pub number_of : Answer → ℕ
number_of a = (row a).number

abbrev pub is_taken : Answer → Bool
is_taken a = (row a).stepped

abbrev pub writes_report : Answer → Bool
writes_report a = (row a).reported
