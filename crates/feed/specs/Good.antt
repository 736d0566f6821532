-- 01, "The feed": what a whole record is, by its bytes alone. The numbers are written as documents 01 and 02 write or add them up.
-- Assumes nothing.
use Rattle.std.specs.Prelude.{◌≡◌, ℕ, ◌+◌, ◌-◌, ◌*◌, ◌%◌, ◌<◌, ◌≤◌, ◌⊎◌, List, length, take, slice_index}
use Rattle.feed.specs.Bytes.{two}
use Rattle.feed.specs.Format.{total}

-- "path byte (..; bits 4 to 7 zero)"; 02, order 7: "the reserved-bit rules for valve and drop go; the path byte's stays"
abbrev pub ReservedZero : List ℕ → Type 0
ReservedZero r = slice_index r 4 < 16

-- "sum, 2 bytes: all earlier bytes of the record, mark included, added modulo 65,536"
abbrev pub SumRight : List ℕ → Type 0
SumRight r = two r (length r - 2) ≡ total (take (length r - 2) r) % 65536

-- "for each module fuel then oxidizer, 2 bytes each, in tenths of a percent, at most 1,000"
abbrev pub QuantitiesRight : List ℕ → Type 0
QuantitiesRight r = (i : ℕ) → i < 6 → two r (605 + 2 * i) ≤ 1000

-- "Minor record, 59 bytes: mark 52 4D (hex)"
pub record MinorRecord (r : List ℕ) : Type 0 where
  pub long : length r ≡ 59
  pub mark : (slice_index r 0 ≡ 0x52) × (slice_index r 1 ≡ 0x4D)
  pub sum : SumRight r
  pub reserved : ReservedZero r

-- "Major record, ..: mark 52 4A"; 02, order 6: "now 619 bytes"
pub record MajorRecord (r : List ℕ) : Type 0 where
  pub long : length r ≡ 619
  pub mark : (slice_index r 0 ≡ 0x52) × (slice_index r 1 ≡ 0x4A)
  pub sum : SumRight r
  pub reserved : ReservedZero r
  pub quantities : QuantitiesRight r

abbrev pub WholeRecord : List ℕ → Type 0
WholeRecord r = MinorRecord r ⊎ MajorRecord r
