-- From fresh, no word of the state ever has the bit of a jet that stands in no mask. Assumes nothing.
use Rattle.std.proofs.Common.{◌≡◌, ℕ, zero, suc, ◌<◌, Bool, false, List, length, get_or, replicate, refl, ap, ◌∙◌}
use lib.ListN.{length-replicate}
use Rattle.bits.specs.Bit.{bit}
use Rattle.bits.proofs.Yes.{not_yes}
use Rattle.bits.proofs.Bits.{bit-none}
use Rattle.cycle.specs.Size.{string_count, manifold_count}
use Rattle.cycle.specs.Map.{masks_of, mapped}
use Rattle.cycle.specs.Words.{fresh, fresh_standing, path_lost, leak_word, minor_steps, major_steps, minor_cycle, major_cycle}
use Rattle.cycle.specs.Records.{Record, minor, major}
use Rattle.cycle.specs.Hall.{fresh_hall, minor_strings, taken, verdict_on, stepped_by, stepped}
use Rattle.cycle.specs.Unmapped.{Unmapped, NoneStanding, NoneOf, UnmappedNone}
use Rattle.cycle.specs.declared.hall.Hall.{Hall}
use Rattle.cycle.specs.declared.map.Masks.{Masks}
use Rattle.cycle.specs.declared.number.Next.{Next}
use Rattle.cycle.specs.Numbers.{Verdict}
use Rattle.std.specs.Prelude.{Ok, Err}
use Rattle.cycle.specs.declared.string.StringState.{StringState}
use Rattle.cycle.specs.declared.values.Sample.{Sample}
use Rattle.cycle.specs.declared.values.Temperatures.{Temperatures}
use Rattle.cycle.specs.declared.values.Requests.{Requests}
use Rattle.cycle.proofs.Maps.{mapped-found}
use Rattle.cycle.proofs.UnmappedSteps.{one_of, minor-steps-none, major-steps-none}
use Rattle.cycle.proofs.HallStrings.{fresh-string, minor-length, minor-at, major-length, major-at}

-- ---- a string's cycle

module _ (masks : List ℕ) (j : ℕ) (no : Unmapped masks j) where
  in-none : (i : ℕ) → i < manifold_count → bit j (get_or masks i 0) ≡ false
  in-none i l = not_yes (bit j (get_or masks i 0)) (no i l)

  not-mapped : bit j (mapped manifold_count masks) ≡ false
  not-mapped = not_yes (bit j (mapped manifold_count masks))
      (λ e. let x = mapped-found masks j manifold_count e in no x.0 x.1 x.2)

  pub minor-cycle-none : (path : Bool) (x : Sample) (gap missed : Bool) (s : StringState) → NoneOf j s
      → NoneOf j (minor_cycle manifold_count masks path x gap missed s)
  unfolding minor_cycle path_lost
  minor-cycle-none path x gap missed s p =
      one_of path (path_lost s) (minor_steps manifold_count masks x gap missed s)
      (record { standing = p.standing; good = p.good; off = p.off; on = p.on; over = p.over })
      (minor-steps-none manifold_count masks j in-none not-mapped x gap missed s p)

  pub major-cycle-none : (path : Bool) (x : Sample) (t : Temperatures) (q : Requests) (s : StringState) → NoneOf j s
      → NoneOf j (major_cycle manifold_count masks path x t q s)
  unfolding major_cycle
  major-cycle-none path x t q s p =
      one_of path s (major_steps manifold_count masks x (leak_word t) q s) p
      (major-steps-none manifold_count masks j in-none not-mapped x (leak_word t) q s p)

-- whatever place of a row of zeros
zeros-at : (n i : ℕ) → ◌≡◌ {A = ℕ} (get_or (replicate n 0) i 0) 0
zeros-at zero i = refl
zeros-at (suc n) zero = refl
zeros-at (suc n) (suc i) = zeros-at n i

pub fresh-none : (j : ℕ) → NoneOf j fresh
fresh-none j =
    let zero = bit-none j in
    let standing : NoneStanding j fresh_standing = record { fail = zero; saved = λ i. ap (bit j) (zeros-at manifold_count i) ∙ zero } in
    record { standing = standing; good = standing; off = (zero, zero, zero); on = (zero, zero, zero); over = (zero, zero) }

-- ---- the hall

-- with all its strings
pub record AllNone (h : Hall) : Type 0 where
  pub strings : length h.strings ≡ string_count
  pub none : UnmappedNone h

pub fresh-all-none : (masks : List Masks) → AllNone (fresh_hall masks)
unfolding fresh_hall
fresh-all-none masks =
    record { strings = length-replicate string_count fresh; none = λ s j l no. rw (fresh-string masks s l) (fresh-none j) }

taken_none : (r : Record) (next : Next) (h : Hall) → AllNone h → AllNone (taken r next h)
unfolding taken
taken_none (minor r) next h p = record {
  strings = minor-length h.masks h.strings p.strings r next.gap next.missed;
  none = λ s j l no.
      rw (minor-at h.masks h.strings p.strings r next.gap next.missed s l)
      (minor-cycle-none (masks_of h.masks s) j no _ _ _ _ _ (p.none s j l no));
}
taken_none (major r) next h p =
    let halfway : List StringState = minor_strings string_count h.masks r.minor next.gap next.missed h.strings in
    let long : length halfway ≡ string_count = minor-length h.masks h.strings p.strings r.minor next.gap next.missed in
    record {
      strings = major-length h.masks halfway long r;
      none = λ s j l no.
          rw (
            major-at h.masks halfway long r s l,
            minor-at h.masks h.strings p.strings r.minor next.gap next.missed s l,
          )
          (major-cycle-none (masks_of h.masks s) j no _ _ _ _ _
          (minor-cycle-none (masks_of h.masks s) j no _ _ _ _ _ (p.none s j l no)));
    }

pub stepped-none : (r : Record) (h : Hall) → AllNone h → AllNone (stepped r h).hall
unfolding stepped
stepped-none r h p = by (verdict_on h.n h.masks r)
  where
    by : (v : Verdict) → AllNone (stepped_by v r h).hall
    by (Ok next) = taken_none r next h p
    by (Err a) = p
