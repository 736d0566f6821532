-- 02, order 1: "refuse a reserved bit or a quantity above 1,000, or an outbox too short, leaving the outbox unchanged, in that order of
-- checks. Bytes past the record keep their values." Assumes nothing.
use Rattle.std.specs.Prelude.{Bool, true, cond, ◌&&◌, List, ◌++◌, ℕ, ltb, leb, length, get_or, drop, Ok, Err}
use Rattle.bits.specs.Bit.{every}
use Rattle.cycle.specs.Size.{module_count}
use Rattle.cycle.specs.Banks.{no_quantities}
use Rattle.cycle.specs.Records.{Record, minor, major, common}
use Rattle.cycle.specs.declared.values.Minor.{Minor}
use Rattle.cycle.specs.declared.values.Quantities.{Quantities}
use Rattle.feed.specs.Size.{reserved_from, most_quantity}
use Rattle.writer.specs.RecordBytes.{bytes_of, length_by}
use Rattle.writer.specs.Answers.{Writing}
use Rattle.writer.specs.declared.answer.Refused.TheVariants.{ReservedBit, QuantityAbove, OutboxShort}

-- the same tests as those of `feed`, `Format`, on values instead of bytes: the reserved bits of the path byte, in either kind, are zero
unfoldable pub reserved_zero : Minor → Bool
reserved_zero r = ltb r.path reserved_from

abbrev pub no_reserved : Record → Bool
no_reserved r = reserved_zero (common r)

-- no quantity is "above 1,000"
unfoldable pub two_right : Quantities → Bool
two_right q = leb q.fuel most_quantity && leb q.oxidizer most_quantity

abbrev pub module_right : List Quantities → ℕ → Bool
module_right quantities m = two_right (get_or quantities m no_quantities)

unfoldable pub quantities_right : List Quantities → Bool
quantities_right quantities = every module_count (module_right quantities)

-- a minor record has none
abbrev pub all_right : Record → Bool
all_right (minor r) = true
all_right (major r) = quantities_right r.quantities

-- "in that order of checks": by whether the reserved bits are zero, the quantities right, and the outbox long enough
unfoldable pub checked : Bool → Bool → Bool → Writing
checked zero right fits = cond zero (cond right (cond fits (Ok tt) (Err OutboxShort)) (Err QuantityAbove)) (Err ReservedBit)

abbrev pub answer_to : Record → ℕ → Writing
answer_to r room = checked (no_reserved r) (all_right r) (leb (length_by r) room)

-- the outbox then: the record's bytes and behind them its own, or "unchanged"
abbrev pub outbox_by : Writing → Record → List ℕ → List ℕ
outbox_by (Ok done) r out = bytes_of r ++ drop (length_by r) out
outbox_by (Err ReservedBit) r out = out
outbox_by (Err QuantityAbove) r out = out
outbox_by (Err OutboxShort) r out = out

-- what the writer gives back: the answer and the whole outbox
pub record Wrote : Type 0 where
  pub answer : Writing
  pub outbox : List ℕ

abbrev pub wrote : Writing → List ℕ → Wrote
wrote a out = record { answer = a; outbox = out }

unfoldable pub write : Record → List ℕ → Wrote
write r out = let a = answer_to r (length out) in wrote a (outbox_by a r out)
