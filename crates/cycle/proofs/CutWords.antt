-- Words cut down to some jets, as those of a record are to the mapped ones, depend on no other jet. Assumes nothing.
use Rattle.std.proofs.Common.{◌≡◌, ℕ, Bool, true, false, not, ◌&&◌, sym, refl, ap, ◌∙◌, ap₂}
use lib.Bits.{bit_and}
use Rattle.bits.specs.Bit.{bit, without}
use Rattle.bits.proofs.Bits.{bit-and, bit-without, bits-same}

-- the two agree wherever the word `jets` has a bit
abbrev pub Agree : ℕ → ℕ → ℕ → Type 0
Agree jets a b = (j : ℕ) → bit j jets ≡ true → bit j a ≡ bit j b

cut-bit : (m a b : Bool) → (m ≡ true → a ≡ b) → (m && a) ≡ (m && b)
cut-bit true a b e = e refl
cut-bit false a b e = refl

pub cut-same : (jets a b : ℕ) → Agree jets a b → bit_and jets a ≡ bit_and jets b
cut-same jets a b e =
    bits-same (bit_and jets a) (bit_and jets b)
    (λ j. bit-and j jets a ∙ cut-bit (bit j jets) (bit j a) (bit j b) (e j) ∙ sym (bit-and j jets b))

without-bit : (m a b c d : Bool) → (m ≡ true → a ≡ b) → (m ≡ true → c ≡ d) → ((m && a) && not c) ≡ ((m && b) && not d)
without-bit true a b c d e f = ap₂ (λ (x y : Bool). x && not y) (e refl) (f refl)
without-bit false a b c d e f = refl

-- what is left of a word cut down, less another word
pub less-same : (jets a b c d : ℕ) → Agree jets a b → Agree jets c d → without (bit_and jets a) c ≡ without (bit_and jets b) d
less-same jets a b c d e f = bits-same (without (bit_and jets a) c) (without (bit_and jets b) d)
    (λ j.
    bit-without j (bit_and jets a) c
    ∙ ap (λ (x : Bool). x && not (bit j c)) (bit-and j jets a)
    ∙ without-bit (bit j jets) (bit j a) (bit j b) (bit j c) (bit j d) (e j) (f j)
    ∙ ap (λ (x : Bool). x && not (bit j d)) (sym (bit-and j jets b))
    ∙ sym (bit-without j (bit_and jets b) d))
