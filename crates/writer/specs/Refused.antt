-- 02, order 1, in arithmetic on the values: the condition of each answer of the writer and its number, the length that a record needs, and
-- what a whole record of its kind is. The numbers are written as documents 01 and 02 write them. Assumes nothing.
use Rattle.std.specs.Prelude.{◌≡◌, List, ◌↔◌, ℕ, ◌<◌, ◌≤◌, get_or, Ok, Err}
use Rattle.cycle.specs.Banks.{no_quantities}
use Rattle.cycle.specs.Records.{Record, minor, major, common}
use Rattle.cycle.specs.declared.values.Quantities.{Quantities}
use Rattle.feed.specs.Good.{MinorRecord, MajorRecord}
use Rattle.writer.specs.Answers.{Writing}
use Rattle.writer.specs.declared.answer.Refused.TheVariants.{ReservedBit, QuantityAbove, OutboxShort}

-- "a reserved bit": one of bits 4 to 7 of the path byte, which is then 16 or more; order 7: "the reserved-bit rules for valve and drop go"
abbrev pub HasReserved : Record → Type 0
HasReserved r = 16 ≤ (common r).path

-- "a quantity above 1,000": the fuel or the oxidizer of a module; a minor record has none
pub data HasAbove (quantities : List Quantities) : Type 0 where
  in_fuel : (m : ℕ) → m < 3 → 1000 < (get_or quantities m no_quantities).fuel → HasAbove quantities
  in_oxidizer : (m : ℕ) → m < 3 → 1000 < (get_or quantities m no_quantities).oxidizer → HasAbove quantities

abbrev pub AboveIn : Record → Type 0
AboveIn (minor r) = ⊥
AboveIn (major r) = HasAbove r.quantities

-- "its 59 or .. bytes"; order 6: "The record is now 619 bytes"
abbrev pub needed : Record → ℕ
needed (minor r) = 59
needed (major r) = 619

-- "in that order of checks"
abbrev pub AnsweredWhen : Writing → Record → ℕ → Type 0
AnsweredWhen (Ok done) r room = (HasReserved r → ⊥) × (AboveIn r → ⊥) × (needed r ≤ room)
AnsweredWhen (Err ReservedBit) r room = HasReserved r
AnsweredWhen (Err QuantityAbove) r room = (HasReserved r → ⊥) × AboveIn r
AnsweredWhen (Err OutboxShort) r room = (HasReserved r → ⊥) × (AboveIn r → ⊥) × (room < needed r)

-- "Refusal numbers are the writer's own, listed in docs/.": n is the number of the answer, as docs/FORMATS.md lists it
pub record Numbered (n : ℕ) (r : Record) (room : ℕ) : Type 0 where
  pub written : (n ≡ 0) ↔ AnsweredWhen (Ok tt) r room
  pub reserved : (n ≡ 1) ↔ AnsweredWhen (Err ReservedBit) r room
  pub above : (n ≡ 2) ↔ AnsweredWhen (Err QuantityAbove) r room
  pub short : (n ≡ 3) ↔ AnsweredWhen (Err OutboxShort) r room

-- a whole record of the kind
abbrev pub WholeOf : Record → List ℕ → Type 0
WholeOf (minor r) l = MinorRecord l
WholeOf (major r) l = MajorRecord l
