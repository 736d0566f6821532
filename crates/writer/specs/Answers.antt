-- 02, order 1: what the writer answers, and "Refusal numbers are the writer's own, listed in docs/." Assumes nothing.
use Rattle.std.specs.Prelude.{ℕ, Result, Ok, Err}
use Rattle.writer.specs.declared.answer.Refused.{Refused}
use Rattle.writer.specs.declared.answer.Refused.TheVariants.{ReservedBit, QuantityAbove, OutboxShort}

-- the record is written, or refused
abbrev pub Writing : Type 0
Writing = Result (Unit {0}) Refused

abbrev pub number_of : Writing → ℕ
number_of (Ok done) = 0
number_of (Err ReservedBit) = 1
number_of (Err QuantityAbove) = 2
number_of (Err OutboxShort) = 3
