-- A major record says that a jet is bad exactly if its bytes do. Assumes nothing.
use Rattle.std.proofs.Common.{◌≡◌, ℕ, ◌+◌, ◌*◌, Bool, true, false, cond, ◌⊎◌, ◌↔◌, List, get_or, pos, ◌≤ℤ◌, subst, eq-eqb}
use Rattle.bits.specs.Bit.{bit}
use Rattle.cycle.specs.Jets.{is_bad}
use Rattle.cycle.specs.Leak.{signed}
use Rattle.cycle.proofs.Leaks.{bad-exactly}
use Rattle.feed.specs.Bytes.{two, four}
use Rattle.feed.specs.Heard.{Heard, jet_heard, BadSaid}

-- the same with these two words in the place of the record's
abbrev BadBy : ℕ → ℕ → List ℕ → ℕ → ℕ → Type 0
BadBy s j r fuel oxidizer =
    (bit j (four r (5 + 13 * s)) ≡ false)
    × ((bit j (four r (13 + 13 * s)) ≡ true) ⊎ ((signed fuel ≤ℤ pos 63) ⊎ (signed oxidizer ≤ℤ pos 63)))

pub bad-heard : (s i j : ℕ) (t : Heard) → get_or t.bytes 1 0 ≡ 0x4A → (is_bad (jet_heard s i j t) ≡ true) ↔ BadSaid s j t.bytes
bad-heard s i j t e =
    let r = t.bytes in
    let fuel = two r (57 + 128 * s + 4 * j) in
    let oxidizer = two r (59 + 128 * s + 4 * j) in
    subst (λ (b : Bool). (is_bad (jet_heard s i j t) ≡ true) ↔ BadBy s j r (cond b fuel 0) (cond b oxidizer 0)) (eq-eqb (get_or r 1 0) 0x4A e)
    (bad-exactly (jet_heard s i j t))
