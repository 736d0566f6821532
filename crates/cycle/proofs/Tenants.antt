-- 02, order 9: what a taken record does to a jet, and to a manifold's close bit, reads nothing of other manifolds and other strings. Of any
-- two proper halls, whether runs reach them or not. Assumes nothing.
use Rattle.std.proofs.Common.{◌≡◌, ℕ, ◌<◌, Bool, true, false, not, ◌&&◌, ◌||◌, List, get_or, sym, refl, ap, ◌∙◌, subst, ap₂}
use Rattle.bits.specs.Bit.{bit}
use Rattle.bits.proofs.Words.{any_same}
use Rattle.cycle.specs.Size.{string_count, jet_count, manifold_count}
use Rattle.cycle.specs.Answers.{is_taken}
use Rattle.cycle.specs.Jets.{JetRecord, drop_done, cycle, asks_at}
use Rattle.cycle.specs.Map.{masks_of, InMask}
use Rattle.cycle.specs.Records.{Record, minor, major}
use Rattle.cycle.specs.Hall.{string_of, verdict_on, stepped_by, stepped}
use Rattle.cycle.specs.Views.{jet_of, jet_record}
use Rattle.cycle.specs.Proper.{ProperHall}
use Rattle.cycle.specs.Tenants.{SameValues, SameManifold}
use Rattle.cycle.specs.declared.hall.Hall.{Hall}
use Rattle.cycle.specs.declared.map.Masks.{Masks}
use Rattle.cycle.specs.Numbers.{Verdict}
use Rattle.std.specs.Prelude.{Ok, Err}
use Rattle.cycle.proofs.HallAgrees.{map-after}
use Rattle.cycle.proofs.ProperSteps.{stepped-jet, stepped-close}

-- what a record says of a jet, led to another number
abbrev numbered : ℕ → JetRecord → JetRecord
numbered n r = record {
  n = n;
  path = r.path;
  commanded = r.commanded;
  pressure = r.pressure;
  driver = r.driver;
  valve = r.valve;
  inhibit = r.inhibit;
  reenable = r.reenable;
  drop = r.drop;
  fuel = r.fuel;
  oxidizer = r.oxidizer;
}

says-numbered : (n s i j : ℕ) (r : Record) → jet_record n s i j r ≡ numbered n (jet_record 0 s i j r)
says-numbered n s i j (minor r) = refl
says-numbered n s i j (major r) = refl

pub stepped-map : (r : Record) (h : Hall) → (stepped r h).hall.masks ≡ h.masks
unfolding stepped
stepped-map r h = by (verdict_on h.n h.masks r)
  where
    by : (v : Verdict) → (stepped_by v r h).hall.masks ≡ h.masks
    by (Ok next) = map-after r next h
    by (Err a) = refl

module _ (h k : Hall) (ph : ProperHall h) (pk : ProperHall k) (s i : ℕ) (l : s < string_count) (below : i < manifold_count)
    (same : h.n ≡ k.n) (a b : Record) (led : (stepped a h).hall.n ≡ (stepped b k).hall.n) where
  -- what is said of a jet
  says_same : (j : ℕ) → jet_record 0 s i j a ≡ jet_record 0 s i j b
      → jet_record (stepped a h).hall.n s i j a ≡ jet_record (stepped b k).hall.n s i j b
  says_same j e =
      says-numbered (stepped a h).hall.n s i j a
      ∙ ap₂ numbered led e
      ∙ sym (says-numbered (stepped b k).hall.n s i j b)

  module _ (ta : is_taken (stepped a h).answer ≡ true) (tb : is_taken (stepped b k).answer ≡ true) where
    -- a jet: its rule reads what the record says of it, and what is remembered of it
    pub jet-alone : (j : ℕ) → InMask (masks_of h.masks s) i j → InMask (masks_of k.masks s) i j
        → jet_record 0 s i j a ≡ jet_record 0 s i j b → jet_of i j (string_of h s) ≡ jet_of i j (string_of k s)
        → jet_of i j (string_of (stepped a h).hall s) ≡ jet_of i j (string_of (stepped b k).hall s)
    jet-alone j stands also said remembered =
        stepped-jet a h ph s i l below ta j stands
        ∙ ap (λ (n : ℕ). cycle n (jet_record (stepped a h).hall.n s i j a) (jet_of i j (string_of h s))) same
        ∙ ap₂ (cycle k.n) (says_same j said) remembered
        ∙ sym (stepped-jet b k pk s i l below tb j also)

    -- the manifold's close bit: it reads what its own jets ask, and its own drop
    pub close-alone : get_or (masks_of h.masks s) i 0 ≡ get_or (masks_of k.masks s) i 0 → SameValues h.masks s i a b
        → ((j : ℕ) → InMask (masks_of h.masks s) i j → jet_of i j (string_of h s) ≡ jet_of i j (string_of k s))
        → bit i (string_of h s).close ≡ bit i (string_of k s).close
        → bit i (string_of (stepped a h).hall s).close ≡ bit i (string_of (stepped b k).hall s).close
    close-alone mask said remembered close =
        stepped-close a h ph s i l below ta
        ∙ ap₂ (λ (x y : Bool). x || y)
        (ap₂ (λ (x y : Bool). x && not y) close (λ t. drop_done (said.path t) (led t) (said.drop t)))
        (any_same jet_count (asking h a (stepped a h).hall.n) (asking k b (stepped b k).hall.n) (λ j w. by j (mine j) refl))
        ∙ sym (stepped-close b k pk s i l below tb)
      where
        mine : ℕ → Bool
        mine j = bit j (get_or (masks_of h.masks s) i 0)

        asking : Hall → Record → ℕ → ℕ → Bool
        asking g r n j = bit j (get_or (masks_of g.masks s) i 0) && asks_at g.n (jet_record n s i j r) (jet_of i j (string_of g s))

        by : (j : ℕ) (m : Bool) → mine j ≡ m → asking h a (stepped a h).hall.n j ≡ asking k b (stepped b k).hall.n j
        by j true e = λ t. bit j (mask t) && asks_at (same t) (says_same j (said.jets j e) t) (remembered j e t)
        by j false e =
            let none : bit j (get_or (masks_of k.masks s) i 0) ≡ false = ap (bit j) (sym mask) ∙ e in
            rw (e, none)

-- the manifold after it, all that is remembered of its jets and its close bit, is the same where it was the same before
pub manifold-alone : (h k : Hall) → ProperHall h → ProperHall k → (s i : ℕ) → s < string_count → i < manifold_count → SameManifold s i h k
    → (a b : Record) → SameValues h.masks s i a b → is_taken (stepped a h).answer ≡ true → is_taken (stepped b k).answer ≡ true
    → (stepped a h).hall.n ≡ (stepped b k).hall.n → SameManifold s i (stepped a h).hall (stepped b k).hall
manifold-alone h k ph pk s i l below same a b said ta tb led = record {
  number = led;
  mask =
      ap (λ (x : List Masks). get_or (masks_of x s) i 0) (stepped-map a h)
      ∙ same.mask
      ∙ ap (λ (x : List Masks). get_or (masks_of x s) i 0) (sym (stepped-map b k));
  jets = λ j stands.
      let here = rw (stepped-map a h) at stands in
      let there = subst (λ (w : ℕ). bit j w ≡ true) same.mask here in
      jet-alone h k ph pk s i l below same.number a b led ta tb j here there (said.jets j here) (same.jets j here);
  close = close-alone h k ph pk s i l below same.number a b led ta tb same.mask said same.jets same.close;
}
