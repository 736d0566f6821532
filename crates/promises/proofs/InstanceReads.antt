-- What the reader makes of the records of the instance, by computing it: each of them settles, and where reading stops. Assumes nothing.
use mathlib.Core.Path.{◌≡◌, refl}
use mathlib.Core.Bool.{true}
use mathlib.Core.List.{List, [], ◌++◌}
use Prim.Native.Nat.{ℕ, ◌-◌, ◌≤◌}
use native.Mathlib.Bridge.{le_by_compare, IsLe}
use lib.ListN.{length, take, drop}
use Rattle.bits.specs.Bit.{every}
use Rattle.feed.specs.Size.{most_held}
use Rattle.feed.specs.Format.{row_of, mark_of, total, sum_of, reserved_zero, quantities_right}
use Rattle.feed.specs.Format.{good_minor, good_major, marked_look, look}
use Rattle.feed.specs.Reader.{settle, reads}
use Rattle.feed.specs.Step.{is_whole}
use Rattle.feed.specs.declared.format.Look.TheVariants.{Waits}
use Rattle.promises.specs.Instance.{warm_words, major_bytes, minor_bytes}

-- ---- the records

pub records-whole : (is_whole (major_bytes 25) ≡ true) × (is_whole (major_bytes 50) ≡ true) × (is_whole (major_bytes 75) ≡ true)
    × (is_whole (minor_bytes 10) ≡ true)
unfolding every row_of mark_of total sum_of reserved_zero quantities_right good_minor good_major marked_look look is_whole warm_words
    major_bytes minor_bytes
records-whole = (refl, refl, refl, refl)

pub parts-wait : (look [] ≡ Waits) × (look (take 85 (major_bytes 50)) ≡ Waits) × (look (take 385 (major_bytes 25)) ≡ Waits)
    × (look (take 15 (minor_bytes 10)) ≡ Waits)
unfolding row_of mark_of marked_look look warm_words major_bytes minor_bytes
parts-wait = (refl, refl, refl, refl)

-- ---- where reading stops

-- with these bytes held, so much of the piece is read; then those bytes are held, and this is left of the piece
pub record Stopping (held piece : List ℕ) (used : ℕ) (left rest : List ℕ) : Type 0 where
  pub short : length held ≤ most_held
  pub count : length piece - length rest ≡ used
  pub stop : reads held piece ≡ record { left = left; rest = rest }

-- nothing to read
pub reads_nothing : Stopping [] [] 0 [] [] × Stopping (take 85 (major_bytes 50)) [] 0 (take 85 (major_bytes 50)) []
unfolding IsLe row_of mark_of marked_look look settle reads warm_words major_bytes
reads_nothing = (
  record { short = le_by_compare 0 618 tt; count = refl; stop = refl },
  record { short = le_by_compare 85 618 tt; count = refl; stop = refl },
)

-- record 25 and something behind it
pub reads-25 : Stopping [] (major_bytes 25) 619 (major_bytes 25) []
    × Stopping [] (major_bytes 25 ++ major_bytes 50) 619 (major_bytes 25) (major_bytes 50)
    × Stopping [] (major_bytes 25 ++ take 85 (major_bytes 50)) 619 (major_bytes 25) (take 85 (major_bytes 50))
    × Stopping [] (major_bytes 25 ++ take 385 (major_bytes 25)) 619 (major_bytes 25) (take 385 (major_bytes 25))
unfolding IsLe every row_of mark_of total sum_of reserved_zero quantities_right good_major marked_look look settle reads warm_words
    major_bytes
reads-25 = (
  record { short = le_by_compare 0 618 tt; count = refl; stop = refl },
  record { short = le_by_compare 0 618 tt; count = refl; stop = refl },
  record { short = le_by_compare 0 618 tt; count = refl; stop = refl },
  record { short = le_by_compare 0 618 tt; count = refl; stop = refl },
)

-- records 50 and 75
pub reads-later : Stopping [] (major_bytes 50) 619 (major_bytes 50) []
    × Stopping [] (major_bytes 50 ++ take 15 (minor_bytes 10)) 619 (major_bytes 50) (take 15 (minor_bytes 10))
    × Stopping [] (major_bytes 75) 619 (major_bytes 75) []
unfolding IsLe every row_of mark_of total sum_of reserved_zero quantities_right good_major marked_look look settle reads warm_words
    major_bytes minor_bytes
reads-later = (
  record { short = le_by_compare 0 618 tt; count = refl; stop = refl },
  record { short = le_by_compare 0 618 tt; count = refl; stop = refl },
  record { short = le_by_compare 0 618 tt; count = refl; stop = refl },
)

-- the first part of a record
pub reads_first : Stopping [] (take 85 (major_bytes 50)) 85 (take 85 (major_bytes 50)) []
    × Stopping [] (take 385 (major_bytes 25)) 385 (take 385 (major_bytes 25)) []
    × Stopping [] (take 15 (minor_bytes 10)) 15 (take 15 (minor_bytes 10)) []
unfolding IsLe row_of mark_of marked_look look settle reads warm_words major_bytes minor_bytes
reads_first = (
  record { short = le_by_compare 0 618 tt; count = refl; stop = refl },
  record { short = le_by_compare 0 618 tt; count = refl; stop = refl },
  record { short = le_by_compare 0 618 tt; count = refl; stop = refl },
)

-- the rest of a record and something behind it
pub reads-rest : Stopping (take 85 (major_bytes 50)) (drop 85 (major_bytes 50) ++ major_bytes 75) 534 (major_bytes 50) (major_bytes 75)
    × Stopping (take 385 (major_bytes 25)) (drop 385 (major_bytes 25) ++ (major_bytes 50 ++ take 15 (minor_bytes 10))) 234 (major_bytes 25)
    (major_bytes 50 ++ take 15 (minor_bytes 10))
    × Stopping (take 15 (minor_bytes 10)) (drop 15 (minor_bytes 10) ++ major_bytes 75) 44 (minor_bytes 10) (major_bytes 75)
unfolding IsLe every row_of mark_of total sum_of reserved_zero quantities_right good_minor good_major marked_look look settle reads
    warm_words major_bytes minor_bytes
reads-rest = (
  record { short = le_by_compare 85 618 tt; count = refl; stop = refl },
  record { short = le_by_compare 385 618 tt; count = refl; stop = refl },
  record { short = le_by_compare 15 618 tt; count = refl; stop = refl },
)
