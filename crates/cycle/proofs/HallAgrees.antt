-- The hall's step agrees with the rules jet by jet: what a taken record does to each mapped jet, to each manifold's close bit and to each
-- module. Assumes nothing.
use Rattle.std.proofs.Common.{◌≡◌, ℕ, ◌^◌, ◌<◌, Bool, true, false, not, ◌&&◌, ◌||◌, List, get_or, sym, refl, ap, ◌∙◌, ap₂}
use Rattle.bits.specs.Bit.{bit, any}
use Rattle.bits.proofs.Yes.{and-false}
use Rattle.cycle.specs.Size.{string_count, jet_count, manifold_count, module_count}
use Rattle.cycle.specs.Jets as jets
use Rattle.cycle.specs.Words.{minor_cycle, major_cycle}
use Rattle.cycle.specs.Banks.{no_bank}
use Rattle.cycle.specs.Records.{Record, minor, major, major_kind}
use Rattle.cycle.specs.Map.{masks_of, InMask}
use Rattle.cycle.specs.Hall.{sample_of, no_temperatures, no_requests, minor_strings, taken}
use Rattle.cycle.specs.Hall.{string_of}
use Rattle.cycle.specs.Views.{jet_of, jet_record}
use Rattle.cycle.specs.Proper.{ProperHall}
use Rattle.cycle.specs.Inside.Drops.{drops_close}
use Rattle.cycle.specs.Inside.Runs.{bank_by}
use Rattle.cycle.specs.declared.number.Next.{Next}
use Rattle.cycle.specs.declared.string.StringState.{StringState}
use Rattle.cycle.specs.declared.values.Minor.{Minor}
use Rattle.cycle.specs.declared.values.Major.{Major}
use Rattle.cycle.specs.declared.hall.Hall.{Hall}
use Rattle.cycle.proofs.Judgements.{Follows}
use Rattle.cycle.proofs.Maps.{in-word}
use Rattle.cycle.proofs.StringCycles.{minorly, majorly, minor-cycle-agrees, major-cycle-agrees}
use Rattle.cycle.proofs.StringCycles.{minor-cycle-close, quiet-close, major-cycle-close, minor-cycle-fits, major-cycle-fits}
use Rattle.cycle.proofs.HallStrings.{minor-length, minor-at, major-at, weighed-at}

-- ---- string s after a taken record

module _ (h : Hall) (p : ProperHall h) (wire : ℕ) (next : Next) (s : ℕ) (l : s < string_count) where
  abbrev masks : List ℕ
  masks = masks_of h.masks s

  minor-string : (r : Minor) → Follows h.n wire false next
      → string_of (taken (minor r) next h) s
      ≡ minorly manifold_count masks (sample_of r s) no_requests no_temperatures h.n next.n (bit s r.path) (string_of h s)
  unfolding taken
  minor-string r f =
      minor-at h.masks h.strings p.strings r next.gap next.missed s l
      ∙ ap₂ (λ (g k : Bool). minor_cycle manifold_count masks (bit s r.path) (sample_of r s) g k (string_of h s)) f.gap f.missed

  major-string : (r : Major) → Follows h.n wire true next
      → string_of (taken (major r) next h) s
      ≡ majorly manifold_count masks (sample_of r.minor s) (get_or r.requests s no_requests) (get_or r.temperatures s no_temperatures)
      h.n next.n (bit s r.minor.path) (string_of h s)
  unfolding taken
  major-string r f =
      let halfway : List StringState = minor_strings string_count h.masks r.minor next.gap next.missed h.strings in
      major-at h.masks halfway (minor-length h.masks h.strings p.strings r.minor next.gap next.missed) r s l
      ∙ ap
      (λ (x : StringState).
      major_cycle manifold_count masks (bit s r.minor.path) (sample_of r.minor s)
      (get_or r.temperatures s no_temperatures) (get_or r.requests s no_requests) x)
      (minor-at h.masks h.strings p.strings r.minor next.gap next.missed s l
      ∙ ap₂ (λ (g k : Bool). minor_cycle manifold_count masks (bit s r.minor.path) (sample_of r.minor s) g k (string_of h s))
      f.gap f.missed)

  -- each mapped jet does what the rules say
  pub jet-after : (r : Record) → Follows h.n wire (major_kind r) next → (i j : ℕ) → i < manifold_count → InMask masks i j
      → jet_of i j (string_of (taken r next h) s) ≡ jets.cycle h.n (jet_record next.n s i j r) (jet_of i j (string_of h s))
  jet-after (minor r) f i j below stands =
      ap (jet_of i j) (minor-string r f)
      ∙ minor-cycle-agrees manifold_count masks (p.disjoint s l) (sample_of r s) no_requests no_temperatures h.n next.n
      (string_of h s) (p.proper s l) i j below stands (bit s r.path) f.kind
  jet-after (major r) f i j below stands =
      ap (jet_of i j) (major-string r f)
      ∙ major-cycle-agrees manifold_count masks (p.disjoint s l) (sample_of r.minor s) (get_or r.requests s no_requests)
      (get_or r.temperatures s no_temperatures) h.n next.n (string_of h s) (p.proper s l) i j below stands
      (bit s r.minor.path) (in-word manifold_count masks (p.disjoint s l).fits i j below stands) f.kind

  -- a manifold's close bit is set exactly if it was and is not dropped, or one of its jets asks
  pub close-after : (r : Record) → Follows h.n wire (major_kind r) next → (i : ℕ) → i < manifold_count
      → bit i (string_of (taken r next h) s).close
      ≡ ((bit i (string_of h s).close && not (drops_close next.n s i r))
      || any jet_count
      (λ j. bit j (get_or masks i 0) && jets.asks_at h.n (jet_record next.n s i j r) (jet_of i j (string_of h s))))
  close-after (minor r) f i below =
      ap (λ (x : StringState). bit i x.close) (minor-string r f)
      ∙ ap (bit i)
      (minor-cycle-close manifold_count masks (p.disjoint s l) (sample_of r s) no_requests no_temperatures h.n next.n
      (string_of h s) (p.proper s l) (bit s r.path))
      ∙ sym
      (quiet-close manifold_count masks (p.disjoint s l) (sample_of r s) no_requests no_temperatures h.n next.n
      (string_of h s) (p.proper s l) (bit s r.path) i
      (ap (λ (b : Bool). not (bit s r.path) && b) f.kind ∙ and-false (not (bit s r.path))))
  close-after (major r) f i below =
      ap (λ (x : StringState). bit i x.close) (major-string r f)
      ∙ major-cycle-close manifold_count masks (p.disjoint s l) (sample_of r.minor s) (get_or r.requests s no_requests)
      (get_or r.temperatures s no_temperatures) h.n next.n (string_of h s) (p.proper s l) (bit s r.minor.path) i below
      f.kind

  -- and no other bit ever is
  pub close-fits-after : (r : Record) → Follows h.n wire (major_kind r) next → (string_of h s).close < 2 ^ manifold_count
      → (string_of (taken r next h) s).close < 2 ^ manifold_count
  close-fits-after (minor r) f b =
      rw (minor-string r f)
      (minor-cycle-fits manifold_count masks (p.disjoint s l) (sample_of r s) no_requests no_temperatures h.n next.n
      (string_of h s) (p.proper s l) (bit s r.path) b)
  close-fits-after (major r) f b =
      rw (major-string r f)
      (major-cycle-fits manifold_count masks (p.disjoint s l) (sample_of r.minor s) (get_or r.requests s no_requests)
      (get_or r.temperatures s no_temperatures) h.n next.n (string_of h s) (p.proper s l) (bit s r.minor.path) b)

-- ---- the rest of the hall

module _ (r : Record) (next : Next) (h : Hall) where
  pub number-after : (taken r next h).n ≡ next.n
  unfolding taken
  number-after = by r
    where
      by : (x : Record) → (taken x next h).n ≡ next.n
      by (minor x) = refl
      by (major x) = refl

  pub map-after : (taken r next h).masks ≡ h.masks
  unfolding taken
  map-after = by r
    where
      by : (x : Record) → (taken x next h).masks ≡ h.masks
      by (minor x) = refl
      by (major x) = refl

pub bank-after : (r : Record) (next : Next) (h : Hall) → ProperHall h → (m : ℕ) → m < module_count
    → get_or (taken r next h).banks m no_bank ≡ bank_by m r (get_or h.banks m no_bank)
unfolding taken
bank-after (minor r) next h p m l = refl
bank-after (major r) next h p m l = weighed-at r.quantities h.banks p.banks m l
