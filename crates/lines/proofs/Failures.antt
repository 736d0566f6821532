-- Failures of the system, as signed numbers. Assumes nothing.
use Rattle.std.proofs.Common.{◌≡◌, ℤ, pos, negsuc, Bool, true, false, not, refl, sym, inr, arith}
use Rattle.lines.specs.Lines.{passes, SaidOver}

-- where a test `!b` held
pub not-true : (b : Bool) → not b ≡ true → b ≡ false
not-true true e = sym e
not-true false e = refl

pub passes-eleven : (z : ℤ) → z ≡ pos 11 → true ≡ passes z
passes-eleven z e = rw e refl

-- neither of the two numbers
pub passes-other : (z : ℤ) → (z ≡ pos 11 → ⊥) → (z ≡ pos 4 → ⊥) → passes z ≡ false
passes-other z ne nf = grind arith

-- a call that failed, by a failure that does not pass
pub said-failed : (answer failure : ℤ) → answer ≡ negsuc 0 → passes failure ≡ false → SaidOver answer failure
said-failed answer failure e p = inr (e, p)
