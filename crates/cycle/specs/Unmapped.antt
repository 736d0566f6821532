-- 01, "Jets, strings, manifolds": "Bits and temperatures of jets in no mask are ignored everywhere". Assumes nothing.
use Rattle.std.specs.Prelude.{◌≡◌, ℕ, ◌<◌, false, List, [], slice_index}
use Rattle.bits.specs.Bit.{bit}
use Rattle.cycle.specs.Size.{string_count, manifold_count}
use Rattle.cycle.specs.Map.{masks_of, InMask}
use Rattle.cycle.specs.Records.{Record, minor, major, major_kind, common}
use Rattle.cycle.specs.Hall.{sample_of, string_of}
use Rattle.cycle.specs.Views.{jet_record, drop_byte}
use Rattle.cycle.specs.declared.hall.Hall.{Hall}
use Rattle.cycle.specs.declared.map.Masks.{Masks}
use Rattle.cycle.specs.declared.string.Standing.{Standing}
use Rattle.cycle.specs.declared.string.StringState.{StringState}
use Rattle.cycle.specs.declared.values.Quantities.{Quantities}

-- jet j stands in none of one string's masks
abbrev pub Unmapped : List ℕ → ℕ → Type 0
Unmapped masks j = (i : ℕ) → i < manifold_count → InMask masks i j → ⊥

-- ---- in a state

pub record NoneStanding (j : ℕ) (t : Standing) : Type 0 where
  pub fail : bit j t.fail ≡ false
  pub saved : (i : ℕ) → bit j (slice_index t.saved i) ≡ false

-- no word of the string has jet j's bit
pub record NoneOf (j : ℕ) (s : StringState) : Type 0 where
  pub standing : NoneStanding j s.standing
  pub good : NoneStanding j s.good
  pub off : (bit j s.off.newest ≡ false) × (bit j s.off.older ≡ false) × (bit j s.off.oldest ≡ false)
  pub on : (bit j s.on.newest ≡ false) × (bit j s.on.older ≡ false) × (bit j s.on.recheck ≡ false)
  pub over : (bit j s.over.inhibit ≡ false) × (bit j s.over.reenable ≡ false)

abbrev pub UnmappedNone : Hall → Type 0
UnmappedNone h = (s j : ℕ) → s < string_count → Unmapped (masks_of h.masks s) j → NoneOf j (string_of h s)

-- ---- in a record

abbrev pub quantities_in : Record → List Quantities
quantities_in (minor r) = []
quantities_in (major r) = r.quantities

-- two records agree on all but unmapped jets
pub record Alike (masks : List Masks) (a b : Record) : Type 0 where
  pub kind : major_kind a ≡ major_kind b
  pub wire : (common a).wire ≡ (common b).wire
  pub path : (s : ℕ) → s < string_count → bit s (common a).path ≡ bit s (common b).path
  pub valves : (s : ℕ) → s < string_count → (sample_of (common a) s).valves ≡ (sample_of (common b) s).valves
  pub drops : (s : ℕ) → s < string_count → drop_byte s a ≡ drop_byte s b
  pub jets : (s i j : ℕ) → s < string_count → i < manifold_count → InMask (masks_of masks s) i j
      → jet_record 0 s i j a ≡ jet_record 0 s i j b
  pub quantities : quantities_in a ≡ quantities_in b
