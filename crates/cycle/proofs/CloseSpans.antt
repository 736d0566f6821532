-- The history's side of the close rule: what one more record does to "bad at that major cycle" and "bad at that and the one before".
-- Assumes nothing.
use Rattle.std.proofs.Common.{◌≡◌, ℕ, ◌+◌, ◌-◌, ◌*◌, ◌/◌, ◌%◌, ◌≤◌, true, false, ◌↔◌, List, [], ◌∷◌, inl, inr, subst, arith}
use Rattle.cycle.specs.Size.{major_every}
use Rattle.cycle.specs.Jets.{JetRecord, is_bad, reached}
use Rattle.cycle.specs.Close.{Some, Every, Rising, reenable_in_force}

-- ---- records of a history

pub some-map : {P Q : JetRecord → List JetRecord → Type 0} (h : List JetRecord) →
    ((p : JetRecord) (g : List JetRecord) → P p g → Q p g) → Some P h → Some Q h
some-map [] f s = s
some-map (r ∷ h) f (inl x) = inl (f r h x)
some-map (r ∷ h) f (inr s) = inr (some-map h f s)

pub every_map : {P Q : JetRecord → Type 0} (h : List JetRecord) → ((p : JetRecord) → P p → Q p) → Every P h → Every Q h
every_map [] f e = tt
every_map (r ∷ h) f e = (f r e.0, every_map h f e.1)

-- no record lies above the number reached
below-reached : (h : List JetRecord) → Rising h → Every (λ p. p.n ≤ reached h) h
below-reached [] t = tt
below-reached (r ∷ h) t = (omega arith, every_map h (λ p l. omega arith) (below-reached h t.1))

-- a record of cycle a or later is there only if the number reached has come to a
pub some-reached : {P : JetRecord → List JetRecord → Type 0} (a : ℕ) (h : List JetRecord) → Rising h →
    ((p : JetRecord) (g : List JetRecord) → P p g → a ≤ p.n) → Some P h → a ≤ reached h
some-reached {P} a h t f s = go h (below-reached h t) s
  where
    go : (g : List JetRecord) → Every (λ p. p.n ≤ reached h) g → Some P g → a ≤ reached h
    go [] e s' = absurd s'
    go (r ∷ g) e (inl x) = omega (arith, f r g x)
    go (r ∷ g) e (inr s') = go g e.1 s'

-- ---- what the newest on slot and the recheck word stand for

-- the last major cycle at or below n, and the last below n
abbrev pub major_up_to : ℕ → ℕ
major_up_to n = major_every * (n / major_every)

abbrev pub major_below : ℕ → ℕ
major_below n = major_every * ((n - 1) / major_every)

abbrev pub BadIn : ℕ → JetRecord → List JetRecord → Type 0
BadIn a p g = (p.n ≡ a) × (is_bad p ≡ true)

abbrev pub BadInNext : ℕ → JetRecord → List JetRecord → Type 0
BadInNext a p g = (p.n + major_every ≡ a) × (is_bad p ≡ true)

abbrev pub BadFreeIn : ℕ → JetRecord → List JetRecord → Type 0
BadFreeIn a p g = (p.n ≡ a) × (is_bad p ≡ true) × (reenable_in_force p g ≡ false)

-- bad at the major cycle a, with no path fault since
abbrev pub BadOnce : ℕ → List JetRecord → Type 0
BadOnce a h = Some (BadIn a) h × Every (λ p. a ≤ p.n → p.path ≡ false) h

-- bad at the major cycle a and the one before, not re-enabled at a, with no path fault since the one before
abbrev pub BadTwice : ℕ → List JetRecord → Type 0
BadTwice a h = Some (BadFreeIn a) h × Some (BadInNext a) h × Every (λ p. a ≤ p.n + major_every → p.path ≡ false) h

-- ---- one more record, its path good

pub once-minor : (h : List JetRecord) (r : JetRecord) → r.path ≡ false → (r.n % major_every ≡ 0 → ⊥) →
    BadOnce (major_below r.n) h ↔ BadOnce (major_up_to r.n) (r ∷ h)
once-minor h r p m = (to, back)
  where
    e : major_below r.n ≡ major_up_to r.n
    e = omega arith

    to : BadOnce (major_below r.n) h → BadOnce (major_up_to r.n) (r ∷ h)
    to o = let Q : ℕ → Type 0 = λ a. BadOnce a (r ∷ h) in subst Q e (inr o.0, ((λ l. p), o.1))

    old : Some (BadIn (major_up_to r.n)) (r ∷ h) → Some (BadIn (major_up_to r.n)) h
    old (inl x) = absurd (m (omega arith))
    old (inr s) = s

    back : BadOnce (major_up_to r.n) (r ∷ h) → BadOnce (major_below r.n) h
    back o = rw e (old o.0, o.1.1)

pub once-major : (h : List JetRecord) (r : JetRecord) → Rising (r ∷ h) → r.path ≡ false → r.n % major_every ≡ 0 →
    (is_bad r ≡ true) ↔ BadOnce (major_up_to r.n) (r ∷ h)
once-major h r t p m = (to, λ o. back o.0)
  where
    e : r.n ≡ major_up_to r.n
    e = omega arith

    to : is_bad r ≡ true → BadOnce (major_up_to r.n) (r ∷ h)
    to b = (inl (e, b), ((λ l. p), every_map h (λ q l k. absurd (omega arith)) (below-reached h t.1)))

    back : Some (BadIn (major_up_to r.n)) (r ∷ h) → is_bad r ≡ true
    back (inl x) = x.1
    back (inr s) = absurd (omega (arith, some-reached (major_up_to r.n) h t.1 (λ q g x. omega arith) s))

pub twice-minor : (h : List JetRecord) (r : JetRecord) → r.path ≡ false → (r.n % major_every ≡ 0 → ⊥) →
    BadTwice (major_below r.n) h ↔ BadTwice (major_up_to r.n) (r ∷ h)
twice-minor h r p m = (to, back)
  where
    e : major_below r.n ≡ major_up_to r.n
    e = omega arith

    to : BadTwice (major_below r.n) h → BadTwice (major_up_to r.n) (r ∷ h)
    to o = let Q : ℕ → Type 0 = λ a. BadTwice a (r ∷ h) in subst Q e (inr o.0, inr o.1, ((λ l. p), o.2))

    last : Some (BadFreeIn (major_up_to r.n)) (r ∷ h) → Some (BadFreeIn (major_up_to r.n)) h
    last (inl x) = absurd (m (omega arith))
    last (inr s) = s

    first : Some (BadInNext (major_up_to r.n)) (r ∷ h) → Some (BadInNext (major_up_to r.n)) h
    first (inl x) = absurd (m (omega arith))
    first (inr s) = s

    back : BadTwice (major_up_to r.n) (r ∷ h) → BadTwice (major_below r.n) h
    back o = rw e (last o.0, first o.1, o.2.1)

-- bad at r, not re-enabled there, and bad at the major cycle before
abbrev pub Again : JetRecord → List JetRecord → Type 0
Again r h = (is_bad r ≡ true) × BadOnce (major_below r.n) h × (reenable_in_force r h ≡ false)

pub twice-major : (h : List JetRecord) (r : JetRecord) → Rising (r ∷ h) → r.path ≡ false → r.n % major_every ≡ 0 →
    Again r h ↔ BadTwice (major_up_to r.n) (r ∷ h)
twice-major h r t p m = (to, λ o. back o.0 o.1 o.2.1)
  where
    e : r.n ≡ major_up_to r.n
    e = omega arith

    e' : major_below r.n + major_every ≡ major_up_to r.n
    e' = omega arith

    to : Again r h → BadTwice (major_up_to r.n) (r ∷ h)
    to w = (
      inl (e, w.0, w.2),
      inr (some-map h (λ q g x. (omega arith, x.1)) w.1.0),
      ((λ l. p), every_map h (λ q f l. f (omega arith)) w.1.1),
    )

    back : Some (BadFreeIn (major_up_to r.n)) (r ∷ h) → Some (BadInNext (major_up_to r.n)) (r ∷ h) →
        Every (λ p. major_up_to r.n ≤ p.n + major_every → p.path ≡ false) h → Again r h
    back (inr s) u v = absurd (omega (arith, some-reached (major_up_to r.n) h t.1 (λ q g x. omega arith) s))
    back (inl x) (inl y) v = absurd (omega arith)
    back (inl x) (inr u) v =
        (x.1, (some-map h (λ q g y. (omega arith, y.1)) u, every_map h (λ q f l. f (omega arith)) v), x.2)
