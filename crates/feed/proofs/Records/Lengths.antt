-- Tests, kinds and looks: a property of a choice by what its test says, the lengths of the kinds, and when a look shows a record.
-- Assumes nothing.
use Rattle.std.proofs.Common.{◌≡◌, ℕ, ◌<◌, ◌≤◌, Bool, true, false, cond, ltb, ◌⊎◌, List, [], ◌∷◌, length, refl, ap, inl, inr, arith, ltb-false, ltb-true, Option, None, Some, is_some}
use Rattle.bits.proofs.Yes.{not-both}
use Rattle.feed.specs.Size.{store_length, least_length}
use Rattle.feed.specs.Format.{row_of, length_of, length_marked, settles, length_shown, kind_shown}
use Rattle.feed.specs.declared.format.Kind.{Kind}
use Rattle.feed.specs.declared.format.Kind.TheVariants.{Minor, Major}
use Rattle.feed.specs.declared.format.Look.{Look}
use Rattle.feed.specs.declared.format.Look.TheVariants.{Drops, Waits, Loses, Settles}

-- a test is true or false
pub by-test : {P : Type 0} (t : Bool) → (t ≡ true → P) → (t ≡ false → P) → P
by-test true f g = f refl
by-test false f g = g refl

-- a property of a choice, by what the test says
pub cond-by : {A : Type 0} (P : A → Type 0) (t : Bool) {a b : A} → (t ≡ true → P a) → (t ≡ false → P b) → P (cond t a b)
cond-by P true f g = f refl
cond-by P false f g = g refl

pub below_or : (a b : ℕ) → (a < b) ⊎ (b ≤ a)
below_or a b = by-test (ltb a b) (λ t. inl (ltb-true a b t)) (λ t. inr (ltb-false a b t))

-- a place is there or not, and one only
pub not-some : {P : Type 0} {o : Option ℕ} {i : ℕ} → o ≡ None → o ≡ Some i → P
not-some p q = absurd cc

pub same-some : {o : Option ℕ} {i j : ℕ} → o ≡ Some i → o ≡ Some j → i ≡ j
same-some p q = cc

-- ---- lengths

pub empty-list : (l : List ℕ) → length l ≡ 0 → l ≡ []
empty-list [] e = refl
empty-list (a ∷ l) e = absurd (omega arith)

-- no record is longer than the store, and none shorter than the least
pub kind_fits : (k : Kind) → length_of k ≤ store_length
unfolding row_of
kind_fits Minor = omega arith
kind_fits Major = omega arith

pub kind-long : (k : Kind) → least_length ≤ length_of k
unfolding row_of
kind-long Minor = omega arith
kind-long Major = omega arith

pub mark-fits : (m : Option Kind) → length_marked m ≤ store_length
mark-fits None = omega arith
mark-fits (Some k) = kind_fits k

-- ---- looks

pub shows-settles : (o : Look) → settles o ≡ true → (k : Kind) × (o ≡ Settles k)
shows-settles Drops e = not-both false e refl
shows-settles Waits e = not-both false e refl
shows-settles Loses e = not-both false e refl
shows-settles (Settles k) e = (k, refl)

pub shown-long : (o : Look) → settles o ≡ true → least_length ≤ length_shown o
shown-long Drops e = not-both false e refl
shown-long Waits e = not-both false e refl
shown-long Loses e = not-both false e refl
shown-long (Settles k) e = kind-long k

pub none-shown : (o : Look) → settles o ≡ false → length_shown o ≡ 0
none-shown Drops e = refl
none-shown Waits e = refl
none-shown Loses e = refl
none-shown (Settles k) e = not-both true refl e

-- the length tells whether there is one
pub shown-none : (o : Look) → length_shown o ≡ 0 → settles o ≡ false
shown-none Drops e = refl
shown-none Waits e = refl
shown-none Loses e = refl
shown-none (Settles k) e = absurd (omega (arith, kind-long k))

pub shown-some : (o : Look) → 0 < length_shown o → settles o ≡ true
shown-some o h = by-test (settles o) (λ t. t) (λ t. absurd (omega (arith, none-shown o t)))

-- the kind tells too, and the length is the kind's
pub kind-some : (o : Look) → is_some (kind_shown o) ≡ settles o
kind-some Drops = refl
kind-some Waits = refl
kind-some Loses = refl
kind-some (Settles k) = refl

pub kind-settles : (o : Look) (k : Kind) → kind_shown o ≡ Some k → o ≡ Settles k
kind-settles Drops k e = absurd cc
kind-settles Waits k e = absurd cc
kind-settles Loses k e = absurd cc
kind-settles (Settles l) k e = let q : l ≡ k = cc in ap Settles q

pub kind-length : (o : Look) → length_marked (kind_shown o) ≡ length_shown o
kind-length Drops = refl
kind-length Waits = refl
kind-length Loses = refl
kind-length (Settles k) = refl
