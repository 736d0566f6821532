-- 02, order 1: all that is asked of what the writer gives back. Assumes nothing.
use Rattle.std.specs.Prelude.{◌≡◌, List, ◌++◌, ◌↔◌, ℕ, ◌<◌, length, get_or, drop, Ok}
use Rattle.cycle.specs.Records.{Record}
use Rattle.writer.specs.Answers.{Writing}
use Rattle.writer.specs.Write.{Wrote}
use Rattle.writer.specs.Refused.{AnsweredWhen, needed, WholeOf}
use Rattle.writer.specs.Carries.{Carries}

-- bytes l that are a whole record of the kind and carry the values; "Bytes past the record keep their values."
pub record RecordIn (r : Record) (out box : List ℕ) : Type 0 where
  pub l : List ℕ
  pub bytes : (i : ℕ) → get_or l i 0 < 256
  pub whole : WholeOf r l
  pub carries : Carries l r
  pub put : box ≡ l ++ drop (needed r) out

-- what x has to be, given the values r and the outbox
pub record Does (r : Record) (out : List ℕ) (x : Wrote) : Type 0 where
  -- "refuse a reserved bit or a quantity above 1,000, or an outbox too short, .. in that order of checks"
  pub answers : (a : Writing) → (x.answer ≡ a) ↔ AnsweredWhen a r (length out)
  -- "leaving the outbox unchanged"
  pub unchanged : (x.answer ≡ Ok tt → ⊥) → x.outbox ≡ out
  -- "write its 59 or .. bytes into a lent outbox"; order 6: 619
  pub writes : x.answer ≡ Ok tt → RecordIn r out x.outbox
