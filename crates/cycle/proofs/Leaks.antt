-- The leak rule by arithmetic, with the numerals of 02, order 3: what a temperature word is as a signed number; a jet leaks exactly if one
-- of its words, as a signed number, is at most 63, and so exactly if one of them lies from 0 to 63 or from 32,768 to 65,535; and when a jet
-- is bad. Assumes nothing.
use Rattle.std.proofs.Common.{◌≡◌, ℕ, ◌<◌, ◌≤◌, Bool, true, false, not, ◌||◌, ltb, leb, ◌⊎◌, ◌↔◌, ℤ, pos, ◌-ℤ◌, ◌≤ℤ◌, ap, ◌∙◌, inl, inr, ⊎_elim, arith, le-ltb, lt-ltb, le-leb}
use native.Mathlib.Decide.{dec_lt}
use lib.Signed.{le_z, le_z_yes}
use borrow.Author.Tests.{lt-leb}
use Rattle.bits.proofs.Yes.{T_of, of_T, not-both, and_left, and_right, and_both, or_cases, or_left, or_right, or-neither}
use Rattle.bits.proofs.Yes.{or-none-left, or-none-right, not-true, not-false}
use Rattle.cycle.specs.Size.{leak_most}
use Rattle.cycle.specs.Leak.{signed, cold, leaks, ColdWord, WarmWord}
use Rattle.cycle.specs.Jets.{JetRecord, is_bad}

-- ---- "two's complement": a word up to 32,767 is that number, any other that number less 65,536

pub signed_up : (t : ℕ) → t ≤ 32767 → signed t ≡ pos t
signed_up t h = let e : ltb t 32768 ≡ true = lt-ltb t 32768 (omega arith) in rw e

pub signed-down : (t : ℕ) → 32768 ≤ t → t ≤ 65535 → signed t ≡ pos t -ℤ pos 65536
signed-down t h g =
    let e : ltb t 32768 ≡ false = le-ltb t 32768 h in
    let f : ltb t 65536 ≡ true = lt-ltb t 65536 (omega arith) in
    rw (e, f)

-- ---- a word

pub cold-signed : (t : ℕ) → (cold t ≡ true) ↔ (signed t ≤ℤ pos 63)
cold-signed t = ((λ e. le_z_yes (T_of (cold t) e)), (λ h. of_T (cold t) h.le))

up : (t : ℕ) → t ≤ 32767 → cold t ≡ leb t 63
up t h = ap (λ (z : ℤ). le_z z (pos leak_most)) (signed_up t h)

down : (t : ℕ) → 32768 ≤ t → t ≤ 65535 → cold t ≡ true
down t h g =
    let f : ltb t 65536 ≡ true = lt-ltb t 65536 (omega arith) in
    let below : le_z (pos t -ℤ pos 65536) (pos leak_most) ≡ true = rw f in
    ap (λ (z : ℤ). le_z z (pos leak_most)) (signed-down t h g) ∙ below

-- every word lies in one of the three ranges
data Range (t : ℕ) : Type 0 where
  low : t ≤ 63 → cold t ≡ true → Range t
  warm : WarmWord t → cold t ≡ false → Range t
  below-zero : 32768 ≤ t → cold t ≡ true → Range t

range : (t : ℕ) → t ≤ 65535 → Range t
range t most = by (dec_lt 63 t) (dec_lt 32767 t)
  where
    by : Dec (63 < t) → Dec (32767 < t) → Range t
    by (no f) _ = low (omega arith) (up t (omega arith) ∙ le-leb t 63 (omega arith))
    by (yes l) (no f) = warm (omega arith, omega arith) (up t (omega arith) ∙ lt-leb t 63 l)
    by (yes l) (yes g) = below-zero g (down t g most)

pub cold-exactly : (t : ℕ) → t ≤ 65535 → (cold t ≡ true) ↔ ColdWord t
cold-exactly t most = ((λ e. by e (range t most)), (λ c. back c (range t most)))
  where
    by : cold t ≡ true → Range t → ColdWord t
    by e (low l _) = inl l
    by e (warm _ f) = not-both (cold t) e f
    by e (below-zero l _) = inr (l, most)

    back : ColdWord t → Range t → cold t ≡ true
    back c (low _ e) = e
    back c (warm w _) = ⊎_elim (λ l. absurd (omega (arith, w.0))) (λ h. absurd (omega (arith, w.1, h.0))) c
    back c (below-zero _ e) = e

pub warm-exactly : (t : ℕ) → t ≤ 65535 → (cold t ≡ false) ↔ WarmWord t
warm-exactly t most = ((λ e. by e (range t most)), (λ w. back w (range t most)))
  where
    by : cold t ≡ false → Range t → WarmWord t
    by e (low _ f) = not-both (cold t) f e
    by e (warm w _) = w
    by e (below-zero _ f) = not-both (cold t) f e

    back : WarmWord t → Range t → cold t ≡ false
    back w (low l _) = absurd (omega (arith, w.0))
    back w (warm _ e) = e
    back w (below-zero l _) = absurd (omega (arith, w.1))

-- ---- a jet: "if either word"

either : (fuel oxidizer : ℕ) {F O : Type 0} → (cold fuel ≡ true) ↔ F → (cold oxidizer ≡ true) ↔ O → (leaks fuel oxidizer ≡ true) ↔ (F ⊎ O)
either fuel oxidizer f o = (
  (λ e. ⊎_elim (λ a. inl (f.0 a)) (λ b. inr (o.0 b)) (or_cases (cold fuel) (cold oxidizer) e)),
  ⊎_elim (λ a. or_left (cold fuel) (cold oxidizer) (f.1 a)) (λ b. or_right (cold fuel) (cold oxidizer) (o.1 b)),
)

pub leaks-signed : (fuel oxidizer : ℕ) → (leaks fuel oxidizer ≡ true) ↔ ((signed fuel ≤ℤ pos 63) ⊎ (signed oxidizer ≤ℤ pos 63))
leaks-signed fuel oxidizer = either fuel oxidizer (cold-signed fuel) (cold-signed oxidizer)

pub leaks-exactly : (fuel oxidizer : ℕ) → fuel ≤ 65535 → oxidizer ≤ 65535
    → (leaks fuel oxidizer ≡ true) ↔ (ColdWord fuel ⊎ ColdWord oxidizer)
leaks-exactly fuel oxidizer f o = either fuel oxidizer (cold-exactly fuel f) (cold-exactly oxidizer o)

pub leaks-not-exactly : (fuel oxidizer : ℕ) → fuel ≤ 65535 → oxidizer ≤ 65535
    → (leaks fuel oxidizer ≡ false) ↔ (WarmWord fuel × WarmWord oxidizer)
leaks-not-exactly fuel oxidizer f o = (
  (λ e. (
    (warm-exactly fuel f).0 (or-none-left (cold fuel) (cold oxidizer) e),
    (warm-exactly oxidizer o).0 (or-none-right (cold fuel) (cold oxidizer) e),
  )),
  (λ w. or-neither (cold fuel) (cold oxidizer) ((warm-exactly fuel f).1 w.0) ((warm-exactly oxidizer o).1 w.1)),
)

-- ---- a bad jet: "if it is not commanded and one of two holds: its driver is on, or it leaks"

pub bad-exactly : (r : JetRecord)
    → (is_bad r ≡ true)
    ↔ ((r.commanded ≡ false) × ((r.driver ≡ true) ⊎ ((signed r.fuel ≤ℤ pos 63) ⊎ (signed r.oxidizer ≤ℤ pos 63))))
unfolding is_bad
bad-exactly r = (
  (λ e. (
    not-true r.commanded (and_left (not r.commanded) bad e),
    ⊎_elim inl (λ l. inr ((leaks-signed r.fuel r.oxidizer).0 l))
        (or_cases r.driver leaking (and_right (not r.commanded) bad e)),
  )),
  (λ h.
      and_both (not r.commanded) bad (not-false r.commanded h.0)
      (⊎_elim (or_left r.driver leaking) (λ l. or_right r.driver leaking ((leaks-signed r.fuel r.oxidizer).1 l)) h.1)),
)
  where
    leaking : Bool
    leaking = leaks r.fuel r.oxidizer

    bad : Bool
    bad = r.driver || leaking
