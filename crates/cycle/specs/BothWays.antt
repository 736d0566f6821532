-- 02, order 4: when a record's values get answer 7, jet by jet. The numbers are written as documents 01 and 02 write them.
-- Assumes nothing.
use Rattle.std.specs.Prelude.{◌≡◌, ℕ, ◌+◌, ◌-◌, ◌%◌, ◌<◌, ◌≤◌, true, List, nat_eq}
use Rattle.cycle.specs.Map.{masks_of, InMask}
use Rattle.cycle.specs.Records.{Record, major_kind, common}
use Rattle.cycle.specs.Views.{jet_record}
use Rattle.cycle.specs.declared.map.Masks.{Masks}

-- "A jet named both ways": the record has the inhibit and the re-enable bit of a jet that stands in a mask, of four strings with `m` masks
-- each
pub record NamedBothWays (m : ℕ) (masks : List Masks) (r : Record) : Type 0 where
  pub string : ℕ
  pub manifold : ℕ
  pub jet : ℕ
  pub in_hall : string < 4
  pub in_string : manifold < m
  pub stands : InMask (masks_of masks string) manifold jet
  pub inhibit : (jet_record 0 string manifold jet r).inhibit ≡ true
  pub reenable : (jet_record 0 string manifold jet r).reenable ≡ true

-- "d is the wire cycle less the lowest 16 bits of n, modulo 65,536"
abbrev pub ahead : ℕ → Record → ℕ
ahead n r = ((common r).wire + (65536 - n % 65536)) % 65536

-- "tested after 4": none of 1 to 4 applies at the cycle number n
pub record NoneBefore (n : ℕ) (r : Record) : Type 0 where
  pub not_repeat : 0 < ahead n r
  pub not_stale : ahead n r < 32768
  pub counted : n + ahead n r ≤ 4294967295
  pub kind : nat_eq ((n + ahead n r) % 25) 0 ≡ major_kind r
