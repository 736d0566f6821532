-- What one cycle does to a jet's on slots, its re-enable and the remembered path fault. Assumes nothing.
use Rattle.std.proofs.Common.{◌≡◌, ℕ, Bool, true, false, cond, not, ◌&&◌, List, ◌∷◌, sym, refl, ap, ◌∙◌, ap₂}
use Rattle.cycle.specs.declared.slots.OnSlots.{OnSlots}
use Rattle.cycle.specs.declared.jet.JetState.{JetState}
use Rattle.cycle.specs.Numbers.{is_major, missed_cycle, missed_major}
use Rattle.cycle.specs.Jets.{JetRecord, no_on, path_lost, recovered, gapped, off_failure, valve_moved, remembered, reenabled, requested}
use Rattle.cycle.specs.Jets.{is_bad, asks, on_failure, kept, minor_steps, after_requests, major_steps, cycle, asks_at, reached, run}

-- ---- which steps a record takes

pub path-cycle : (old : ℕ) (r : JetRecord) (s : JetState) → r.path ≡ true → cycle old r s ≡ path_lost s
unfolding cycle
path-cycle old r s p = rw p

pub minor-cycle : (old : ℕ) (r : JetRecord) (s : JetState) → r.path ≡ false → is_major r.n ≡ false →
    cycle old r s ≡ minor_steps old r s
unfolding cycle
minor-cycle old r s p m = rw (p, m)

pub major-cycle : (old : ℕ) (r : JetRecord) (s : JetState) → r.path ≡ false → is_major r.n ≡ true →
    cycle old r s ≡ major_steps old r s
unfolding cycle
major-cycle old r s p m = rw (p, m)

-- ---- steps 1 to 4

recovered-lost : (s : JetState) → (recovered s).lost ≡ false
unfolding recovered
recovered-lost s = go s.lost refl
  where
    go : (b : Bool) → s.lost ≡ b → (recovered s).lost ≡ false
    go true e = rw e
    go false e = rw e

recovered-after-loss : (s : JetState) → s.lost ≡ true → (recovered s).on ≡ no_on
unfolding recovered
recovered-after-loss s e = rw e

recovered-otherwise : (s : JetState) → s.lost ≡ false → recovered s ≡ s
unfolding recovered
recovered-otherwise s e = rw e

gapped-does : (gap missed : Bool) (s : JetState) →
    ((gapped gap missed s).on ≡ cond missed no_on s.on) × ((gapped gap missed s).lost ≡ s.lost)
unfolding gapped
gapped-does true true s = (refl, refl)
gapped-does true false s = (refl, refl)
gapped-does false true s = (refl, refl)
gapped-does false false s = (refl, refl)

valve-keeps : (was now : Bool) (s : JetState) → ((valve_moved was now s).on ≡ s.on) × ((valve_moved was now s).lost ≡ s.lost)
unfolding valve_moved
valve-keeps true true s = (refl, refl)
valve-keeps true false s = (refl, refl)
valve-keeps false true s = (refl, refl)
valve-keeps false false s = (refl, refl)

minor-on : (old : ℕ) (r : JetRecord) (s : JetState) → (minor_steps old r s).on ≡ cond (missed_major old r.n) no_on (recovered s).on
unfolding minor_steps remembered off_failure
minor-on old r s = (valve-keeps _ r.valve _).0 ∙ (gapped-does (missed_cycle old r.n) (missed_major old r.n) (recovered s)).0

minor-lost : (old : ℕ) (r : JetRecord) (s : JetState) → (minor_steps old r s).lost ≡ false
unfolding minor_steps remembered off_failure
minor-lost old r s =
    (valve-keeps _ r.valve _).1 ∙ (gapped-does (missed_cycle old r.n) (missed_major old r.n) (recovered s)).1 ∙ recovered-lost s

-- the on slots after step 2: none after a lost path or a missed major cycle, else those remembered
pub slots-after-loss : (old : ℕ) (r : JetRecord) (s : JetState) → s.lost ≡ true → (minor_steps old r s).on ≡ no_on
slots-after-loss old r s l = minor-on old r s ∙ go (missed_major old r.n)
  where
    go : (b : Bool) → cond b no_on (recovered s).on ≡ no_on
    go true = refl
    go false = recovered-after-loss s l

pub slots-after-miss : (old : ℕ) (r : JetRecord) (s : JetState) → missed_major old r.n ≡ true → (minor_steps old r s).on ≡ no_on
slots-after-miss old r s m = minor-on old r s ∙ rw m

pub slots-else : (old : ℕ) (r : JetRecord) (s : JetState) → s.lost ≡ false → missed_major old r.n ≡ false →
    (minor_steps old r s).on ≡ s.on
slots-else old r s l m = minor-on old r s ∙ rw (m, recovered-otherwise s l)

-- ---- steps 5 to 8

requested-keeps : (i e : Bool) (s : JetState) → ((requested i e s).on ≡ s.on) × ((requested i e s).lost ≡ s.lost)
unfolding requested
requested-keeps true e s = (refl, refl)
requested-keeps false true s = by s.standing.valve
  where
    by : (opened : Bool) → ((cond opened (reenabled s) s).on ≡ s.on) × ((cond opened (reenabled s) s).lost ≡ s.lost)
    by true = (refl, refl)
    by false = (refl, refl)
requested-keeps false false s = (refl, refl)

requests-keep-slots : (old : ℕ) (r : JetRecord) (s : JetState) → (after_requests old r s).on ≡ (minor_steps old r s).on
requests-keep-slots old r s = (requested-keeps r.inhibit r.reenable (minor_steps old r s)).0

major-lost : (old : ℕ) (r : JetRecord) (s : JetState) → (major_steps old r s).lost ≡ false
unfolding major_steps kept on_failure
major-lost old r s = (requested-keeps r.inhibit r.reenable (minor_steps old r s)).1 ∙ minor-lost old r s

pub major-over : (old : ℕ) (r : JetRecord) (s : JetState) → (major_steps old r s).over ≡ (after_requests old r s).over
unfolding major_steps kept on_failure
major-over old r s = refl

pub major-newest : (old : ℕ) (r : JetRecord) (s : JetState) → (major_steps old r s).on.newest ≡ is_bad r
unfolding major_steps kept on_failure
major-newest old r s = refl

pub major-recheck : (old : ℕ) (r : JetRecord) (s : JetState) →
    (major_steps old r s).on.recheck
    ≡ (is_bad r && (minor_steps old r s).on.newest && not (after_requests old r s).over.reenable)
unfolding major_steps kept on_failure
major-recheck old r s = rw (requests-keep-slots old r s)

-- ---- the whole cycle

-- a path fault is remembered exactly after a record with its path bit set
pub run-lost : (r : JetRecord) (h : List JetRecord) → (run (r ∷ h)).lost ≡ r.path
unfolding run path_lost
run-lost r h = go r.path refl (is_major r.n) refl
  where
    lost : JetState → Bool
    lost s = s.lost

    go : (p : Bool) → r.path ≡ p → (m : Bool) → is_major r.n ≡ m → (run (r ∷ h)).lost ≡ r.path
    go true p m q = ap lost (path-cycle (reached h) r (run h) p) ∙ sym p
    go false p true q = ap lost (major-cycle (reached h) r (run h) p q) ∙ major-lost (reached h) r (run h) ∙ sym p
    go false p false q = ap lost (minor-cycle (reached h) r (run h) p q) ∙ minor-lost (reached h) r (run h) ∙ sym p

-- ---- asking

pub path-quiet : (old : ℕ) (r : JetRecord) (s : JetState) → r.path ≡ true → asks_at old r s ≡ false
unfolding asks_at
path-quiet old r s p = rw p

pub minor-quiet : (old : ℕ) (r : JetRecord) (s : JetState) → r.path ≡ false → is_major r.n ≡ false → asks_at old r s ≡ false
unfolding asks_at
minor-quiet old r s p m = rw (p, m)

pub major-asks : (old : ℕ) (r : JetRecord) (s : JetState) → r.path ≡ false → is_major r.n ≡ true →
    asks_at old r s ≡ ((minor_steps old r s).on.recheck && is_bad r && not (after_requests old r s).over.reenable)
unfolding asks_at
major-asks old r s p m =
    let x = after_requests old r s in
    ap₂ (λ (b c : Bool). not b && c && asks (is_bad r) x) p m
    ∙ ap (λ (y : OnSlots Bool). y.recheck && is_bad r && not x.over.reenable) (requests-keep-slots old r s)
