-- Bytes that stand in a list from a place on: of a list put together from parts, where each part stands. Assumes nothing.
use Rattle.std.proofs.Common.{◌≡◌, ℕ, suc, ◌+◌, ◌*◌, ◌<◌, List, ◌++◌, length, get_or, ap, ◌∙◌, add_assoc, mul-le-mul_left, mul-suc, arith, length-append}
use lib.ListN.{get_or-append}
use Rattle.feed.specs.Bytes.{parts}
use Rattle.feed.proofs.Reports.Parts.{get_d_past, parts-length, parts_at}

-- l has the bytes of p from place a on
abbrev pub Stands : List ℕ → List ℕ → ℕ → Type 0
Stands l p a = (i : ℕ) → i < length p → get_or l (a + i) 0 ≡ get_or p i 0

module _ (l : List ℕ) where
  pub front : (p q : List ℕ) (a : ℕ) → Stands l (p ++ q) a → Stands l p a
  front p q a h i b =
      h i (let z = length-append p q in omega (arith, z)) ∙ get_or-append p q 0 i b

  pub back : (p q : List ℕ) (a k : ℕ) → length p ≡ k → Stands l (p ++ q) a → Stands l q (a + k)
  back p q a k e h i b =
      ap (λ (n : ℕ). get_or l n 0) (add_assoc a k i)
      ∙ h (k + i) (let z = length-append p q in omega (arith, z))
      ∙ get_d_past p q k i e

  pub part : (n k : ℕ) (f : ℕ → List ℕ) → ((s : ℕ) → length (f s) ≡ k) → (a : ℕ) → Stands l (parts n f) a → (s : ℕ) → s < n
      → Stands l (f s) (a + k * s)
  part n k f long a h s b i j =
      let i-in : i < k = omega (arith, long s) in
      let z = mul-le-mul_left {m = suc s} {n = n} k b in
      ap (λ (m : ℕ). get_or l m 0) (add_assoc a (k * s) i)
      ∙ h (k * s + i) (omega (arith, parts-length k f long n, mul-suc k s, z))
      ∙ parts_at k f long n s i b i-in
