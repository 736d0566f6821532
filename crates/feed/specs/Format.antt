-- 01, "The feed", as 02, orders 6 and 7, amend it: the record format, over lists of bytes. Assumes nothing.
use Rattle.std.specs.Prelude.{ℕ, ◌+◌, ◌-◌, ◌*◌, ◌%◌, Bool, true, false, cond, ◌&&◌, List, [], ◌∷◌, length, take, ◌==◌, nat_le, nat_lt, slice_index, Option, None, Some}
use Rattle.bits.specs.Bit.{every}
use Rattle.cycle.specs.Size.{module_count}
use Rattle.feed.specs.Size.{mark_byte, minor_mark, major_mark, minor_length, major_length, sum_length, sum_span, reserved_from, most_quantity}
use Rattle.feed.specs.Size.{path_at, quantities_from, quantities_length, quantity_length}
use Rattle.feed.specs.Bytes.{two}
use Rattle.feed.specs.declared.format.Kind.{Kind}
use Rattle.feed.specs.declared.format.Kind.TheVariants.{Minor, Major}
use Rattle.feed.specs.declared.format.Look.{Look}
use Rattle.feed.specs.declared.format.Look.TheVariants.{Drops, Waits, Loses, Settles}

-- ---- what makes a full record good

-- "sum, 2 bytes: all earlier bytes of the record, mark included, added modulo 65,536"
unfoldable pub total : List ℕ → ℕ
total [] = 0
total (b ∷ l) = b + total l

unfoldable pub sum_of : List ℕ → ℕ
sum_of l = total l % sum_span

-- the sum of the record of n bytes at the front is right
abbrev pub sum_right : ℕ → List ℕ → Bool
sum_right n l = two l (n - sum_length) == sum_of (take (n - sum_length) l)

-- "path byte (..; bits 4 to 7 zero)"; 02, order 7: "the reserved-bit rules for valve and drop go; the path byte's stays"
unfoldable pub reserved_zero : List ℕ → Bool
reserved_zero l = nat_lt (slice_index l path_at) reserved_from

-- "for each module fuel then oxidizer, 2 bytes each, in tenths of a percent, at most 1,000": the two from place i on
abbrev pub two_right : List ℕ → ℕ → Bool
two_right l i = nat_le (two l i) most_quantity && nat_le (two l (i + quantity_length)) most_quantity

unfoldable pub quantities_right : List ℕ → Bool
quantities_right l = every module_count (λ m. two_right l (quantities_from + quantities_length * m))

unfoldable pub good_minor : List ℕ → Bool
good_minor l = sum_right minor_length l && reserved_zero l

unfoldable pub good_major : List ℕ → Bool
good_major l = sum_right major_length l && reserved_zero l && quantities_right l

-- ---- the table of kinds: the second byte of the mark, the length, what makes a full record good

pub record Row : Type 0 where
  pub mark : ℕ
  pub long : ℕ
  pub good : List ℕ → Bool

-- "Minor record, 59 bytes: mark 52 4D (hex)"; "Major record, ..: mark 52 4A", 02, order 6: "now 619 bytes"
unfoldable pub row_of : Kind → Row
row_of Minor = record { mark = minor_mark; long = minor_length; good = good_minor }
row_of Major = record { mark = major_mark; long = major_length; good = good_major }

abbrev pub length_of : Kind → ℕ
length_of k = (row_of k).long

abbrev pub good_kind : Kind → List ℕ → Bool
good_kind k l = (row_of k).good l

-- "Each record begins with a two-byte mark": what the second byte makes of it
unfoldable pub mark_of : ℕ → Option Kind
mark_of b = cond (b == (row_of Minor).mark) (Some Minor) (cond (b == (row_of Major).mark) (Some Major) None)

-- the length that it announces, 0 where it makes no mark
abbrev pub length_marked : Option Kind → ℕ
length_marked None = 0
length_marked (Some k) = length_of k

-- ---- "The reader looks at the oldest byte held."

-- at a mark: "it waits for the full length. A full record with a wrong sum, a non-zero reserved bit or a quantity above 1,000 loses its
-- first byte, and the reader looks again. Otherwise the record is settled"
abbrev pub full_look : Kind → List ℕ → Look
full_look k l = cond (nat_lt (length l) (length_of k)) Waits (cond (good_kind k l) (Settles k) Loses)

unfoldable pub marked_look : Option Kind → List ℕ → Look
marked_look None l = Drops
marked_look (Some k) l = full_look k l

-- "If the bytes there can't begin a mark, it drops one byte. If they're a mark or the start of one, it waits for the full length."
unfoldable pub look : List ℕ → Look
look l =
    cond (length l == 0) Waits
    (cond (slice_index l 0 == mark_byte) (cond (length l == 1) Waits (marked_look (mark_of (slice_index l 1)) l)) Drops)

-- is there a record
abbrev pub settles : Look → Bool
settles Drops = false
settles Waits = false
settles Loses = false
settles (Settles k) = true

-- and how long is it
abbrev pub length_shown : Look → ℕ
length_shown Drops = 0
length_shown Waits = 0
length_shown Loses = 0
length_shown (Settles k) = length_of k

-- and of which kind
abbrev pub kind_shown : Look → Option Kind
kind_shown Drops = None
kind_shown Waits = None
kind_shown Loses = None
kind_shown (Settles k) = Some k
