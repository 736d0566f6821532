-- A jet's on slots and recheck word, told by its history: the invariant behind the close rule. Assumes nothing.
use Rattle.std.proofs.Common.{◌≡◌, ℕ, ◌-◌, ◌/◌, ◌%◌, ◌<◌, ◌≤◌, Bool, true, false, not, ◌&&◌, ◌↔◌, List, [], ◌∷◌, sym, refl, ap, ◌∙◌, arith, eqb→eq, ltb→lt, nltb→le, eq-eqb}
use mathlib.Core.Logic.Iff
use Rattle.bits.proofs.Yes.{not-both, T_of, T-not-of, and_left, and_right, and_both, not-true, not-false}
use Rattle.cycle.specs.Size.{major_every}
use Rattle.cycle.specs.declared.slots.OnSlots.{OnSlots}
use Rattle.cycle.specs.declared.jet.JetState.{JetState}
use Rattle.cycle.specs.Numbers.{is_major, missed_major}
use Rattle.cycle.specs.Jets.{JetRecord, no_on, is_bad, minor_steps, after_requests, reached, run}
use Rattle.cycle.specs.Close.{Rising, reenable_in_force}
use Rattle.cycle.proofs.CloseSteps.{minor-cycle, major-cycle, slots-after-loss, slots-after-miss, slots-else}
use Rattle.cycle.proofs.CloseSteps.{major-over, major-newest, major-recheck, run-lost}
use Rattle.cycle.proofs.CloseSpans.{some-reached, major_up_to, major_below, BadOnce, BadTwice, Again}
use Rattle.cycle.proofs.CloseSpans.{once-minor, once-major, twice-minor, twice-major}

-- ---- the tests

pub major-is : (n : ℕ) → is_major n ≡ true → n % major_every ≡ 0
unfolding is_major
major-is n e = eqb→eq (n % major_every) 0 (T_of _ e)

pub minor-is : (n : ℕ) → is_major n ≡ false → n % major_every ≡ 0 → ⊥
unfolding is_major
minor-is n e z = not-both (is_major n) (eq-eqb (n % major_every) 0 z) e

missed-is : (old new : ℕ) → missed_major old new ≡ true → old < major_below new
unfolding missed_major
missed-is old new e = omega (arith, ltb→lt (old / major_every) ((new - 1) / major_every) (T_of _ e))

none-missed : (old new : ℕ) → old < new → missed_major old new ≡ false → major_below new ≡ major_up_to old
unfolding missed_major
none-missed old new l e = omega (arith, nltb→le (old / major_every) ((new - 1) / major_every) (T-not-of _ e))

-- a && b && not c, taken apart
pub both-and-not : (a b c : Bool) → ((a && b && not c) ≡ true) ↔ ((a ≡ true) × (b ≡ true) × (c ≡ false))
both-and-not a b c = (
  (λ e. let f = and_left (a && b) (not c) e in (and_left a b f, and_right a b f, not-true c (and_right (a && b) (not c) e))),
  (λ x. and_both (a && b) (not c) (and_both a b x.0 x.1) (not-false c x.2)),
)

-- ---- the slots, told by the history

-- the newest on slot and the recheck word are told by the major cycle a
pub record Told (a : ℕ) (h : List JetRecord) (x : OnSlots Bool) : Type 0 where
  pub once : (x.newest ≡ true) ↔ BadOnce a h
  pub twice : (x.recheck ≡ true) ↔ BadTwice a h

-- empty slots tell of a history without such records
told_none : (a : ℕ) (h : List JetRecord) → (BadOnce a h → ⊥) → (BadTwice a h → ⊥) → Told a h no_on
told_none a h f g =
    record { once = ((λ e. not-both false e refl), (λ x. absurd (f x))); twice = ((λ e. not-both false e refl), (λ x. absurd (g x))) }

-- after a lost path nothing counts
once-lost : (a : ℕ) (h : List JetRecord) → Rising h → (run h).lost ≡ true → BadOnce a h → ⊥
once-lost a [] t l o = o.0
once-lost a (r ∷ h) t l o =
    let n : a ≤ r.n = some-reached a (r ∷ h) t (λ p g x. omega arith) o.0 in
    not-both r.path (sym (run-lost r h) ∙ l) (o.1.0 n)

twice-lost : (a : ℕ) (h : List JetRecord) → Rising h → (run h).lost ≡ true → BadTwice a h → ⊥
twice-lost a [] t l o = o.0
twice-lost a (r ∷ h) t l o =
    let n : a ≤ r.n = some-reached a (r ∷ h) t (λ p g x. omega arith) o.0 in
    not-both r.path (sym (run-lost r h) ∙ l) (o.2.0 (omega arith))

-- while the path is not lost, they are told by the last major cycle up to the number reached
abbrev pub Invariant : List JetRecord → Type 0
Invariant h = (run h).lost ≡ false → Told (major_up_to (reached h)) h (run h).on

-- what steps 1 and 2 leave when r comes is told by the last major cycle below it
pub told-before : (h : List JetRecord) (r : JetRecord) → Rising (r ∷ h) → Invariant h →
    Told (major_below r.n) h (minor_steps (reached h) r (run h)).on
told-before h r t i = go (run h).lost refl (missed_major (reached h) r.n) refl
  where
    a : ℕ
    a = major_below r.n

    go : (l : Bool) → (run h).lost ≡ l → (k : Bool) → missed_major (reached h) r.n ≡ k → Told a h (minor_steps (reached h) r (run h)).on
    go true l k q = rw (slots-after-loss (reached h) r (run h) l) (told_none a h (once-lost a h t.1 l) (twice-lost a h t.1 l))
    go false l true q =
        let far = missed-is (reached h) r.n q in
        rw (slots-after-miss (reached h) r (run h) q)
        (told_none a h (λ o. omega (arith, some-reached a h t.1 (λ p g x. omega arith) o.0))
        (λ o. omega (arith, some-reached a h t.1 (λ p g x. omega arith) o.0)))
    go false l false q = rw (slots-else (reached h) r (run h) l q, none-missed (reached h) r.n t.0 q) (i l)

-- in a major cycle the re-enable in force is the one after step 5
pub in-force : (h : List JetRecord) (r : JetRecord) → r.path ≡ false → is_major r.n ≡ true →
    reenable_in_force r h ≡ (after_requests (reached h) r (run h)).over.reenable
unfolding run
in-force h r p m =
    ap (λ (s : JetState). s.over.reenable) (major-cycle (reached h) r (run h) p m)
    ∙ ap (λ x. x.reenable) (major-over (reached h) r (run h))

told-minor : (h : List JetRecord) (r : JetRecord) → Rising (r ∷ h) → Invariant h → r.path ≡ false → is_major r.n ≡ false →
    Told (major_up_to r.n) (r ∷ h) (run (r ∷ h)).on
unfolding run
told-minor h r t i p q =
    let b = told-before h r t i in
    rw (minor-cycle (reached h) r (run h) p q)
    (record {
      once = Iff.trans b.once (once-minor h r p (minor-is r.n q));
      twice = Iff.trans b.twice (twice-minor h r p (minor-is r.n q));
    })

told-major : (h : List JetRecord) (r : JetRecord) → Rising (r ∷ h) → Invariant h → r.path ≡ false → is_major r.n ≡ true →
    Told (major_up_to r.n) (r ∷ h) (run (r ∷ h)).on
unfolding run
told-major h r t i p q = record {
  once = rw newest (once-major h r t p m);
  twice = rw recheck (Iff.trans again (twice-major h r t p m));
}
  where
    m : r.n % major_every ≡ 0
    m = major-is r.n q

    slots : OnSlots Bool
    slots = (minor_steps (reached h) r (run h)).on

    newest : (run (r ∷ h)).on.newest ≡ is_bad r
    newest = ap (λ (s : JetState). s.on.newest) (major-cycle (reached h) r (run h) p q) ∙ major-newest (reached h) r (run h)

    recheck : (run (r ∷ h)).on.recheck ≡ (is_bad r && slots.newest && not (reenable_in_force r h))
    recheck =
        ap (λ (s : JetState). s.on.recheck) (major-cycle (reached h) r (run h) p q) ∙ major-recheck (reached h) r (run h)
        ∙ ap (λ (b : Bool). is_bad r && slots.newest && not b) (sym (in-force h r p q))

    again : ((is_bad r && slots.newest && not (reenable_in_force r h)) ≡ true) ↔ Again r h
    again =
        let b = told-before h r t i in
        let a = both-and-not (is_bad r) slots.newest (reenable_in_force r h) in
        ((λ e. let y = a.0 e in (y.0, b.once.0 y.1, y.2)), (λ x. a.1 (x.0, b.once.1 x.1, x.2)))

pub invariant : (h : List JetRecord) → Rising h → Invariant h
unfolding run
invariant [] t l = told_none 0 [] (λ o. o.0) (λ o. o.0)
invariant (r ∷ h) t l = go (is_major r.n) refl (invariant h t.1)
  where
    p : r.path ≡ false
    p = sym (run-lost r h) ∙ l

    go : (m : Bool) → is_major r.n ≡ m → Invariant h → Told (major_up_to r.n) (r ∷ h) (run (r ∷ h)).on
    go true q i = told-major h r t i p q
    go false q i = told-minor h r t i p q
