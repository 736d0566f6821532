-- The hall's loops over its strings and modules do to each what its own rule says; a fresh hall is proper and every step keeps it so.
-- Assumes nothing.
use Rattle.std.proofs.Common.{◌≡◌, ℕ, ◌<◌, Bool, false, List, length, get_or, sym, refl, ap, ◌∙◌, arith}
use lib.ListN.{length-replicate, get_or-replicate}
use Rattle.bits.specs.Bit.{bit}
use Rattle.bits.proofs.Yes.{not-both}
use Rattle.bits.proofs.Bits.{bit-none}
use Rattle.cycle.specs.Size.{string_count, manifold_count, all_open, module_count}
use Rattle.cycle.specs.Map.{masks_of, FitMap, refused}
use Rattle.cycle.specs.Words.{fresh, fresh_standing, minor_cycle, major_cycle}
use Rattle.cycle.specs.Banks.{no_bank, no_quantities, weighed, weighed_all}
use Rattle.cycle.specs.Records.{Record, minor, major}
use Rattle.cycle.specs.Hall.{past_string, sample_of, no_temperatures, no_requests, fresh_hall, minor_strings, major_strings}
use Rattle.cycle.specs.Hall.{taken, verdict_on, stepped_by, stepped}
use Rattle.cycle.specs.Hall.{string_of}
use Rattle.cycle.specs.Proper.{ProperStanding, ProperHall}
use Rattle.cycle.specs.declared.banks.Bank.{Bank}
use Rattle.cycle.specs.declared.map.Masks.{Masks}
use Rattle.cycle.specs.declared.number.Next.{Next}
use Rattle.cycle.specs.Numbers.{Verdict}
use Rattle.std.specs.Prelude.{Ok, Err}
use Rattle.cycle.specs.declared.string.StringState.{StringState}
use Rattle.cycle.specs.declared.values.Minor.{Minor}
use Rattle.cycle.specs.declared.values.Major.{Major}
use Rattle.cycle.specs.declared.values.Quantities.{Quantities}
use Rattle.cycle.specs.declared.hall.Hall.{Hall}
use Rattle.cycle.proofs.Each.{each-length, each_at}
use Rattle.cycle.proofs.Maps.{accepted-disjoint}
use Rattle.cycle.proofs.ProperKept.{minor-cycle-proper, major-cycle-proper}

-- ---- each string by itself

module _ (masks : List Masks) (strings : List StringState) (long : length strings ≡ string_count) where
  module _ (r : Minor) (gap missed : Bool) where
    pub minor-length : length (minor_strings string_count masks r gap missed strings) ≡ string_count
    unfolding minor_strings
    minor-length = each-length _ past_string strings string_count ∙ long

    pub minor-at : (s : ℕ) → s < string_count
        → get_or (minor_strings string_count masks r gap missed strings) s past_string
        ≡ minor_cycle manifold_count (masks_of masks s) (bit s r.path) (sample_of r s) gap missed (get_or strings s past_string)
    unfolding minor_strings
    minor-at s l = each_at _ past_string strings string_count s l (omega arith)

  module _ (r : Major) where
    pub major-length : length (major_strings string_count masks r strings) ≡ string_count
    unfolding major_strings
    major-length = each-length _ past_string strings string_count ∙ long

    pub major-at : (s : ℕ) → s < string_count
        → get_or (major_strings string_count masks r strings) s past_string
        ≡ major_cycle manifold_count (masks_of masks s) (bit s r.minor.path) (sample_of r.minor s)
        (get_or r.temperatures s no_temperatures) (get_or r.requests s no_requests) (get_or strings s past_string)
    unfolding major_strings
    major-at s l = each_at _ past_string strings string_count s l (omega arith)

-- ---- each module by itself

module _ (q : List Quantities) (banks : List Bank) (long : length banks ≡ module_count) where
  pub weighed-length : length (weighed_all module_count q banks) ≡ module_count
  unfolding weighed_all
  weighed-length = each-length _ no_bank banks module_count ∙ long

  pub weighed-at : (m : ℕ) → m < module_count → get_or (weighed_all module_count q banks) m no_bank ≡ weighed (get_or q m no_quantities)
  unfolding weighed_all
  weighed-at m l = each_at _ no_bank banks module_count m l (omega arith)

-- ---- proper halls

fresh-standing-proper : (masks : List ℕ) → ProperStanding manifold_count masks fresh_standing
fresh-standing-proper masks = record {
  long = length-replicate {A = ℕ} manifold_count 0;
  within = λ i j l h. not-both (bit j 0) (sym (ap (bit j) (get_or-replicate {A = ℕ} manifold_count i 0 0 l)) ∙ h) (bit-none j);
}

-- string s of a fresh hall is fresh
pub fresh-string : (masks : List Masks) (s : ℕ) → s < string_count → string_of (fresh_hall masks) s ≡ fresh
unfolding fresh_hall
fresh-string masks s l = get_or-replicate string_count s fresh past_string l

-- 02, order 7: "At fresh all eight are remembered as open"; "good copy the same"
pub fresh-open : (masks : List Masks) (s : ℕ) → s < string_count
    → ((string_of (fresh_hall masks) s).standing.valves ≡ all_open) × ((string_of (fresh_hall masks) s).good.valves ≡ all_open)
fresh-open masks s l = rw (fresh-string masks s l) (refl, refl)

pub fresh-proper : (masks : List Masks) → FitMap masks → refused string_count masks ≡ false → ProperHall (fresh_hall masks)
unfolding fresh_hall
fresh-proper masks fit accepted = record {
  strings = length-replicate string_count fresh;
  banks = length-replicate module_count no_bank;
  disjoint = accepted-disjoint masks fit accepted;
  proper = λ s l.
      rw (fresh-string masks s l)
      (record { standing = fresh-standing-proper (masks_of masks s); good = fresh-standing-proper (masks_of masks s) });
}

pub taken-proper : (r : Record) (next : Next) (h : Hall) → ProperHall h → ProperHall (taken r next h)
unfolding taken
taken-proper (minor r) next h p = record {
  strings = minor-length h.masks h.strings p.strings r next.gap next.missed;
  banks = p.banks;
  disjoint = p.disjoint;
  proper = λ s l.
      rw (minor-at h.masks h.strings p.strings r next.gap next.missed s l)
      (minor-cycle-proper manifold_count (masks_of h.masks s) _ _ _ _ _ (p.proper s l));
}
taken-proper (major r) next h p =
    let halfway : List StringState = minor_strings string_count h.masks r.minor next.gap next.missed h.strings in
    let long : length halfway ≡ string_count = minor-length h.masks h.strings p.strings r.minor next.gap next.missed in
    record {
      strings = major-length h.masks halfway long r;
      banks = weighed-length r.quantities h.banks p.banks;
      disjoint = p.disjoint;
      proper = λ s l.
          rw (
            major-at h.masks halfway long r s l,
            minor-at h.masks h.strings p.strings r.minor next.gap next.missed s l,
          )
          (major-cycle-proper manifold_count (masks_of h.masks s) _ _ _ _ _
          (minor-cycle-proper manifold_count (masks_of h.masks s) _ _ _ _ _ (p.proper s l)));
    }

pub stepped-proper : (r : Record) (h : Hall) → ProperHall h → ProperHall (stepped r h).hall
unfolding stepped
stepped-proper r h p = by (verdict_on h.n h.masks r)
  where
    by : (v : Verdict) → ProperHall (stepped_by v r h).hall
    by (Ok next) = taken-proper r next h p
    by (Err a) = p
