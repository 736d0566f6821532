-- The small rules that jets and packed words share, in plain arithmetic, with the papers' numbers. Assumes nothing.
use mathlib.Core.Path.{◌≡◌}
use mathlib.Core.Bool.{true, false}
use mathlib.Core.Logic.{◌⊎◌, ◌↔◌}
use Prim.Native.Nat.{ℕ, ◌*◌, ◌<◌, ◌≤◌}
use lib.IntN.{pos, ◌-ℤ◌}
use lib.Signed.{◌≤ℤ◌}
use Rattle.cycle.specs.Numbers.{missed_major}
use Rattle.cycle.specs.Leak.{signed, leaks, ColdWord, WarmWord}
use Rattle.cycle.specs.Banks.{weighed, Weighed}
use Rattle.cycle.specs.declared.values.Quantities.{Quantities}
use Rattle.cycle.proofs.Balance.{weighed-exactly}
use Rattle.cycle.proofs.Leaks as leak
use Rattle.cycle.proofs.Numbers.{missed-is-between}

-- 02, order 3: "From now on a jet leaks if either word, as a signed number, is at most 63."
pub leaks-up-to-63 : (fuel oxidizer : ℕ) → (leaks fuel oxidizer ≡ true) ↔ ((signed fuel ≤ℤ pos 63) ⊎ (signed oxidizer ≤ℤ pos 63))
leaks-up-to-63 = leak.leaks-signed

-- "Words 0 to 63 leak as before, 64 to 32,767 don't, 32,768 to 65,535 now do."
pub leaks-by-range : (fuel oxidizer : ℕ) → fuel ≤ 65535 → oxidizer ≤ 65535
    → (leaks fuel oxidizer ≡ true) ↔ (ColdWord fuel ⊎ ColdWord oxidizer)
leaks-by-range = leak.leaks-exactly

pub leaks-not-by-range : (fuel oxidizer : ℕ) → fuel ≤ 65535 → oxidizer ≤ 65535
    → (leaks fuel oxidizer ≡ false) ↔ (WarmWord fuel × WarmWord oxidizer)
leaks-not-by-range = leak.leaks-not-exactly

-- "a signed 16-bit word, two's complement": the word itself up to 32,767, from 32,768 on the word less 65,536
pub signed_is : (t : ℕ) → (t ≤ 32767 → signed t ≡ pos t) × (32768 ≤ t → t ≤ 65535 → signed t ≡ pos t -ℤ pos 65536)
signed_is t = (leak.signed_up t, leak.signed-down t)

-- "out of balance if the two quantities differ by more than 16 tenths", which is the lesser, and 02, order 10, how far they are apart
pub balance-limit : (q : Quantities) → Weighed q.fuel q.oxidizer (weighed q)
balance-limit = weighed-exactly

pub missed-is-multiple : (old new : ℕ) → (missed_major old new ≡ true) ↔ ((k : ℕ) × (old < k * 25) × (k * 25 < new))
missed-is-multiple = missed-is-between
