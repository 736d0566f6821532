-- Both engines step alike: from corresponding states, a record gets the same answer and leads to corresponding states. Assumes nothing.
use mathlib.Core.Path.{◌≡◌, refl, sym, ap, ap₂, ◌∙◌}
use mathlib.Core.Bool.{Bool, not, true, false, ◌&&◌, ◌||◌}
use mathlib.Core.List.{List}
use mathlib.Core.Logic.{◌⊎◌, inl, inr, ⊎_elim}
use Prim.Native.Nat.{ℕ, ◌<◌}
use native.Mathlib.Omega.{arith}
use borrow.Author.Tests.{lt-ltb, eq-eqb, ne_eqb}
use lib.Dec.{eqb}
use lib.ListN.{length, get_or}
use Rattle.bits.specs.Bit.{bit, any}
use Rattle.bits.proofs.Yes.{not-both, and_left, and_right, and_both, not_yes, same-yes}
use Rattle.bits.proofs.Words.{any_at, any_found, any_same}
use Rattle.cycle.specs.Size.{string_count, jet_count, manifold_count, module_count}
use Rattle.cycle.specs.Map.{masks_of, mapped, InMask}
use Rattle.cycle.specs.Jets as jets
use Rattle.cycle.specs.Jets.{JetRecord}
use Rattle.cycle.specs.Banks.{weighed_all}
use Rattle.cycle.specs.Numbers.{judged}
use Rattle.cycle.specs.Records.{Record, minor, major, major_kind, common}
use Rattle.cycle.specs.Unmapped.{Unmapped}
use Rattle.cycle.specs.Views.{jet_of, jet_record}
use Rattle.cycle.specs.Hall.{string_of}
use Rattle.cycle.specs.Hall as packed
use Rattle.cycle.specs.Proper.{ProperHall}
use Rattle.cycle.specs.declared.hall.Hall.{Hall}
use Rattle.cycle.specs.declared.number.Next.{Next}
use Rattle.cycle.specs.Numbers.{Verdict}
use Rattle.std.specs.Prelude.{Ok, Err}
use Rattle.cycle.proofs.Each.{each-length, each_at}
use Rattle.cycle.proofs.Maps.{in-word, mapped-jet, mapped-found}
use Rattle.cycle.proofs.BothWays.{names-exactly}
use Rattle.cycle.proofs.Judgements.{Follows}
use Rattle.cycle.proofs.Verdicts.{verdict-follows}
use Rattle.cycle.proofs.HallAgrees.{jet-after, close-after, number-after, map-after}
use Rattle.plain.specs.Jet.{by, state_of, place_of, with_state, fresh_on, record_of, mapped_jet}
use Rattle.plain.specs.Said.{silent, past_string, opened_record}
use Rattle.plain.specs.String.{jet_at, said_at, drop_at, cycle, string_both_ways}
use Rattle.plain.specs.Hall.{string_at, cycles, both_ways, record_both_ways, taken, verdict_on, stepped_by, stepped}
use Rattle.plain.specs.Corresponds.{Corresponds}
use Rattle.plain.specs.declared.jet.Jet.{Jet}
use Rattle.std.specs.Prelude.{Some, None}
use Rattle.plain.specs.declared.said.JetSaid.{JetSaid}
use Rattle.plain.specs.declared.said.StringSaid.{StringSaid}
use Rattle.plain.specs.declared.string.PlainString.{PlainString}
use Rattle.plain.specs.declared.hall.Plain.{Plain}
use Rattle.plain.proofs.Jets.{Whole, cycle-jet, cycle-still, cycle-close, cycle-whole}
use Rattle.plain.proofs.Opened.{said-path, said-jet, said-drop, heard-same}

-- an engine with all its strings
pub record WholePlain (p : Plain) : Type 0 where
  pub strings : length p.strings ≡ string_count
  pub each : (s : ℕ) → s < string_count → Whole (string_at p s)

-- ---- one taken record

-- string s after it
module _ (r : Record) (next : Next) (p : Plain) (w : WholePlain p) where
  string-after : (s : ℕ) → s < string_count
      → string_at (taken r next p) s ≡ cycle (get_or (opened_record r p.strings) s silent) next (major_kind r) (string_at p s)
  unfolding taken cycles
  string-after = by_kind r
    where
      by_kind : (x : Record) (s : ℕ) → s < string_count
          → string_at (taken x next p) s ≡ cycle (get_or (opened_record x p.strings) s silent) next (major_kind x) (string_at p s)
      by_kind (minor x) s b = each_at _ past_string p.strings string_count s b (omega (arith, w.strings))
      by_kind (major x) s b = each_at _ past_string p.strings string_count s b (omega (arith, w.strings))

  strings-long : length (taken r next p).strings ≡ string_count
  unfolding taken cycles
  strings-long = by_kind r
    where
      by_kind : (x : Record) → length (taken x next p).strings ≡ string_count
      by_kind (minor x) = each-length _ past_string p.strings string_count ∙ w.strings
      by_kind (major x) = each-length _ past_string p.strings string_count ∙ w.strings

  plain-number : (taken r next p).n ≡ next.n
  unfolding taken
  plain-number = by_kind r
    where
      by_kind : (x : Record) → (taken x next p).n ≡ next.n
      by_kind (minor x) = refl
      by_kind (major x) = refl

module _ (h : Hall) (p : Plain) (proper : ProperHall h) (w : WholePlain p) (k : Corresponds h p) where
  abbrev masks_at : ℕ → List ℕ
  masks_at s = masks_of h.masks s

  -- a jet of string s
  abbrev jet_in : ℕ → ℕ → Jet
  jet_in s j = jet_at (string_at p s).jets j

  -- it stands on a manifold or on none
  stands-or-not : (s j : ℕ) → ((i : ℕ) × (i < manifold_count) × InMask (masks_at s) i j) ⊎ Unmapped (masks_at s) j
  stands-or-not s j = by_bit (bit j (mapped manifold_count (masks_at s))) refl
    where
      by_bit : (b : Bool) → bit j (mapped manifold_count (masks_at s)) ≡ b
          → ((i : ℕ) × (i < manifold_count) × InMask (masks_at s) i j) ⊎ Unmapped (masks_at s) j
      by_bit true e = inl (mapped-found (masks_at s) j manifold_count e)
      by_bit false e =
          inr (λ i l stands. not-both (bit j (mapped manifold_count (masks_at s))) (mapped-jet (masks_at s) j manifold_count i l stands) e)

  inside : (s i j : ℕ) → s < string_count → i < manifold_count → InMask (masks_at s) i j → j < jet_count
  inside s i j b l stands = in-word manifold_count (masks_at s) (proper.disjoint s b).fits i j l stands

  -- its place
  place-mapped : (s i j : ℕ) → s < string_count → i < manifold_count → InMask (masks_at s) i j → place_of (jet_in s j).place ≡ i
  place-mapped s i j b l stands = ap (λ (x : Jet). place_of x.place) (k.mapped s i j b l stands)

  place-unmapped : (s j : ℕ) → s < string_count → j < jet_count → Unmapped (masks_at s) j → place_of (jet_in s j).place ≡ manifold_count
  place-unmapped s j b c none = ap (λ (x : Jet). place_of x.place) (k.unmapped s j b c none)

  pub is_mapped : (s i j : ℕ) → s < string_count → i < manifold_count → InMask (masks_at s) i j → mapped_jet (jet_in s j) ≡ true
  is_mapped s i j b l stands = rw (place-mapped s i j b l stands) (lt-ltb i manifold_count l)

  pub is-unmapped : (s j : ℕ) → s < string_count → j < jet_count → Unmapped (masks_at s) j → mapped_jet (jet_in s j) ≡ false
  is-unmapped s j b c none = rw (place-unmapped s j b c none)

  -- it stands on manifold i exactly if i's mask has it
  stands_on : (s i j : ℕ) → s < string_count → i < manifold_count → j < jet_count
      → eqb (place_of (jet_in s j).place) i ≡ bit j (get_or (masks_at s) i 0)
  stands_on s i j b l c = ⊎_elim there nowhere (stands-or-not s j)
    where
      there : (n : ℕ) × (n < manifold_count) × InMask (masks_at s) n j → eqb (place_of (jet_in s j).place) i ≡ bit j (get_or (masks_at s) i 0)
      there x = by_bit (bit j (get_or (masks_at s) i 0)) refl
        where
          by_bit : (t : Bool) → bit j (get_or (masks_at s) i 0) ≡ t → eqb (place_of (jet_in s j).place) i ≡ t
          by_bit true e =
              eq-eqb (place_of (jet_in s j).place) i (place-mapped s i j b l e)
          by_bit false e =
              ne_eqb (place_of (jet_in s j).place) i
              (λ q.
              let same : x.0 ≡ i = sym (place-mapped s x.0 j b x.1 x.2) ∙ q in
              not-both (bit j (get_or (masks_at s) i 0)) (ap (λ (n : ℕ). bit j (get_or (masks_at s) n 0)) (sym same) ∙ x.2) e)

      nowhere : Unmapped (masks_at s) j → eqb (place_of (jet_in s j).place) i ≡ bit j (get_or (masks_at s) i 0)
      nowhere none =
          ne_eqb (place_of (jet_in s j).place) i (λ q. omega (arith, place-unmapped s j b c none))
          ∙ sym (not_yes (bit j (get_or (masks_at s) i 0)) (none i l))

  -- ---- a jet named both ways

  both-ways-same : (r : Record) → record_both_ways r p ≡ packed.record_both_ways h.masks r
  unfolding both_ways string_both_ways
  both-ways-same (minor r) = refl
  both-ways-same (major r) = same-yes (record_both_ways (major r) p) (packed.record_both_ways h.masks (major r)) to back
    where
      said : ℕ → StringSaid
      said s = get_or (opened_record (major r) p.strings) s silent

      jet : ℕ → ℕ → Bool
      jet s j = mapped_jet (jet_in s j) && (said_at (said s) j).inhibit && (said_at (said s) j).reenable

      string : ℕ → Bool
      string s = any jet_count (jet s)

      to : any string_count string ≡ true → packed.record_both_ways h.masks (major r) ≡ true
      to e =
          let x = any_found string_count string e in
          let y = any_found jet_count (jet x.0) x.2 in
          ⊎_elim
          (λ z.
          let heard = said-jet (major r) p.strings x.0 y.0 x.1 y.1 in
          let front = and_left (mapped_jet (jet_in x.0 y.0) && _) _ y.2 in
          (names-exactly h.masks (major r)).1
          (record {
            string = x.0;
            manifold = z.0;
            jet = y.0;
            in_hall = x.1;
            in_string = z.1;
            stands = z.2;
            inhibit = sym (ap (λ (q : JetSaid). q.inhibit) heard) ∙ and_right (mapped_jet (jet_in x.0 y.0)) _ front;
            reenable = sym (ap (λ (q : JetSaid). q.reenable) heard) ∙ and_right (mapped_jet (jet_in x.0 y.0) && _) _ y.2;
          }))
          (λ none.
          not-both (mapped_jet (jet_in x.0 y.0)) (and_left (mapped_jet (jet_in x.0 y.0)) _ (and_left (mapped_jet (jet_in x.0
          y.0) && _) _ y.2))
          (is-unmapped x.0 y.0 x.1 y.1 none))
          (stands-or-not x.0 y.0)

      back : packed.record_both_ways h.masks (major r) ≡ true → any string_count string ≡ true
      back e =
          let n = (names-exactly h.masks (major r)).0 e in
          let c = inside n.string n.manifold n.jet n.in_hall n.in_string n.stands in
          let heard = said-jet (major r) p.strings n.string n.jet n.in_hall c in
          any_at string_count string n.string n.in_hall
          (any_at jet_count (jet n.string) n.jet c
          (and_both (mapped_jet (jet_in n.string n.jet) && _) _
          (and_both (mapped_jet (jet_in n.string n.jet)) _
          (is_mapped n.string n.manifold n.jet n.in_hall n.in_string n.stands)
          (ap (λ (q : JetSaid). q.inhibit) heard ∙ n.inhibit))
          (ap (λ (q : JetSaid). q.reenable) heard ∙ n.reenable)))

  verdict-same : (r : Record) → verdict_on r p ≡ packed.verdict_on h.n h.masks r
  unfolding verdict_on packed.verdict_on
  verdict-same r =
      ap₂ (λ (b : Bool) (n : ℕ). packed.unless_both_ways b (judged n (common r).wire (major_kind r))) (both-ways-same r) k.number

  -- ---- a taken record

  module _ (r : Record) (next : Next) (f : Follows h.n (common r).wire (major_kind r) next) where
    abbrev said_of : ℕ → StringSaid
    said_of s = get_or (opened_record r p.strings) s silent

    -- what the plain engine hears of jet j of string s
    abbrev heard_by : ℕ → ℕ → JetRecord
    heard_by s j = record_of next.n (said_of s).path (drop_at (said_of s) (place_of (jet_in s j).place)) (said_at (said_of s) j)

    -- what both say of jet j of string s on manifold i
    alike : (s i j : ℕ) → s < string_count → i < manifold_count → InMask (masks_at s) i j
        → heard_by s j ≡ jet_record next.n s i j r
    alike s i j b l stands =
        ap (λ (m : ℕ). record_of next.n (said_of s).path (drop_at (said_of s) m) (said_at (said_of s) j)) (place-mapped s i j b l stands)
        ∙ heard-same next.n r p.strings s i j b l (inside s i j b l stands) (place-mapped s i j b l stands)

    taken-mapped : (s i j : ℕ) → s < string_count → i < manifold_count → InMask (masks_at s) i j
        → jet_at (string_at (taken r next p) s).jets j ≡ with_state (Some i) (jet_of i j (string_of (packed.taken r next h) s))
    taken-mapped s i j b l stands =
        ap (λ (x : PlainString). jet_at x.jets j) (string-after r next p w s b)
        ∙ cycle-jet (said_of s) next (string_at p s) (w.each s b) h.n (major_kind r) f.gap f.missed f.kind j
        (inside s i j b l stands) (is_mapped s i j b l stands)
        ∙ ap (by (jets.cycle h.n (heard_by s j))) (k.mapped s i j b l stands)
        ∙ ap (λ (q : JetRecord). with_state (Some i) (jets.cycle h.n q (jet_of i j (string_of h s)))) (alike s i j b l stands)
        ∙ ap (with_state (Some i)) (sym (jet-after h proper (common r).wire next s b r f i j l stands))

    taken-unmapped : (s j : ℕ) → s < string_count → j < jet_count → Unmapped (masks_at s) j
        → jet_at (string_at (taken r next p) s).jets j ≡ fresh_on None
    taken-unmapped s j b c none =
        ap (λ (x : PlainString). jet_at x.jets j) (string-after r next p w s b)
        ∙ cycle-still (said_of s) next (string_at p s) (w.each s b) h.n (major_kind r) f.gap f.missed f.kind j c
        (is-unmapped s j b c none)
        ∙ k.unmapped s j b c none

    taken-closes : (s i : ℕ) → s < string_count → i < manifold_count
        → get_or (string_at (taken r next p) s).close i false ≡ bit i (string_of (packed.taken r next h) s).close
    taken-closes s i b l =
        ap (λ (x : PlainString). get_or x.close i false) (string-after r next p w s b)
        ∙ cycle-close (said_of s) next (string_at p s) (w.each s b) h.n (major_kind r) f.gap f.missed f.kind i l
        ∙ ap₂ (λ (x y : Bool). x || y)
        (ap₂ (λ (x y : Bool). x && not y) (k.closes s i b l)
        (ap₂ (λ (x y : Bool). jets.drop_done x next.n y) (said-path r p.strings s b) (said-drop r p.strings s i b l)))
        (any_same jet_count _ _ asks)
        ∙ sym (close-after h proper (common r).wire next s b r f i l)
      where
        asks : (j : ℕ) → j < jet_count
            → (eqb (place_of (jet_in s j).place) i
            && jets.asks_at h.n (heard_by s j) (state_of (jet_in s j)))
            ≡ (bit j (get_or (masks_at s) i 0) && jets.asks_at h.n (jet_record next.n s i j r) (jet_of i j (string_of h s)))
        asks j c = by_bit (bit j (get_or (masks_at s) i 0)) refl
          where
            by_bit : (t : Bool) → bit j (get_or (masks_at s) i 0) ≡ t
                → (eqb (place_of (jet_in s j).place) i
                && jets.asks_at h.n (heard_by s j) (state_of (jet_in s j)))
                ≡ (t && jets.asks_at h.n (jet_record next.n s i j r) (jet_of i j (string_of h s)))
            by_bit true e =
                rw (stands_on s i j b l c, e, alike s i j b l e)
                (ap (λ (x : Jet). jets.asks_at h.n (jet_record next.n s i j r) (state_of x)) (k.mapped s i j b l e))
            by_bit false e = rw (stands_on s i j b l c, e)

    taken-banks : (taken r next p).banks ≡ (packed.taken r next h).banks
    unfolding taken packed.taken
    taken-banks = by_kind r
      where
        by_kind : (x : Record) → (taken x next p).banks ≡ (packed.taken x next h).banks
        by_kind (minor x) = k.banks
        by_kind (major x) = ap (weighed_all module_count x.quantities) k.banks

    pub taken-corresponds : Corresponds (packed.taken r next h) (taken r next p)
    taken-corresponds = record {
      number = plain-number r next p w ∙ sym (number-after r next h);
      mapped = λ s i j b l stands. taken-mapped s i j b l (rw (map-after r next h) at stands);
      unmapped = λ s j b c none. taken-unmapped s j b c (rw (map-after r next h) at none);
      closes = taken-closes;
      banks = taken-banks;
    }

    pub taken-whole : WholePlain (taken r next p)
    taken-whole = record {
      strings = strings-long r next p w;
      each = λ s b.
          rw (string-after r next p w s b)
          (cycle-whole (said_of s) next (string_at p s) (w.each s b) h.n (major_kind r) f.gap f.missed f.kind);
    }

  -- ---- any record

  pub answer-same : (r : Record) → (stepped r p).answer ≡ (packed.stepped r h).answer
  unfolding stepped packed.stepped
  answer-same r = ap (λ (v : Verdict). (stepped_by v r p).answer) (verdict-same r) ∙ by-verdict (packed.verdict_on h.n h.masks r)
    where
      by-verdict : (v : Verdict) → (stepped_by v r p).answer ≡ (packed.stepped_by v r h).answer
      by-verdict (Ok next) = refl
      by-verdict (Err a) = refl

  pub step-corresponds : (r : Record) → Corresponds (packed.stepped r h).hall (stepped r p).hall
  unfolding stepped packed.stepped
  step-corresponds r = rw (verdict-same r) (by-verdict (packed.verdict_on h.n h.masks r) refl)
    where
      by-verdict : (v : Verdict) → packed.verdict_on h.n h.masks r ≡ v
          → Corresponds (packed.stepped_by v r h).hall (stepped_by v r p).hall
      by-verdict (Ok next) e = taken-corresponds r next (verdict-follows h.n h.masks r next e)
      by-verdict (Err a) e = k

  pub step-whole : (r : Record) → WholePlain (stepped r p).hall
  unfolding stepped
  step-whole r = rw (verdict-same r) (by-verdict (packed.verdict_on h.n h.masks r) refl)
    where
      by-verdict : (v : Verdict) → packed.verdict_on h.n h.masks r ≡ v → WholePlain (stepped_by v r p).hall
      by-verdict (Ok next) e = taken-whole r next (verdict-follows h.n h.masks r next e)
      by-verdict (Err a) e = w
