-- Words with their bytes in the other order: jets are commanded without pressure by the ones exactly if they are by the others, since bits
-- are told byte by byte. Assumes nothing.
use Rattle.std.proofs.Common.{◌≡◌, ℕ, ◌+◌, ◌*◌, ◌/◌, ◌%◌, ◌^◌, ◌<◌, ◌≤◌, Bool, ◌&&◌, eqb, List, length, get_or, sym, ap, ◌∙◌, ap₂, ⊎_elim, eq-or-lt_of_le, arith, eq-eqb, eqb-true}
use lib.Bits.{bit_and, bit_xor, and_block, xor_block, and_lt}
use Rattle.bits.specs.Bit.{word_bits, without}
use Rattle.bits.proofs.Yes.{same-yes}
use Rattle.cycle.specs.Size.{string_count}
use Rattle.cycle.specs.Calm.{quiet}
use Rattle.cycle.specs.declared.string.StringState.{StringState}
use Rattle.cycle.specs.declared.values.Sample.{Sample}
use Rattle.cycle.proofs.Each.{each_at}
use Rattle.feed.specs.Inside.LowFirst.{turned}
use Rattle.feed.specs.Inside.Calm.{turned_sample, turned_words}

-- a word by its bytes, the high one first
abbrev word : ℕ → ℕ → ℕ → ℕ → ℕ
word a b c d = ((a * 2 ^ 8 + b) * 2 ^ 8 + c) * 2 ^ 8 + d

record Bytes (a b c d : ℕ) : Type 0 where
  first : a < 2 ^ 8
  second : b < 2 ^ 8
  third : c < 2 ^ 8
  fourth : d < 2 ^ 8

and_word : (a b c d e f g h : ℕ) → Bytes a b c d → Bytes e f g h
    → bit_and (word a b c d) (word e f g h) ≡ word (bit_and a e) (bit_and b f) (bit_and c g) (bit_and d h)
and_word a b c d e f g h x y =
    and_block 8 _ _ d h x.fourth y.fourth
    ∙ ap (λ (n : ℕ). n * 2 ^ 8 + bit_and d h)
    (and_block 8 _ _ c g x.third y.third ∙ ap (λ (n : ℕ). n * 2 ^ 8 + bit_and c g) (and_block 8 a e b f x.second y.second))

xor-word : (a b c d e f g h : ℕ) → Bytes a b c d → Bytes e f g h
    → bit_xor (word a b c d) (word e f g h) ≡ word (bit_xor a e) (bit_xor b f) (bit_xor c g) (bit_xor d h)
xor-word a b c d e f g h x y =
    xor_block 8 _ _ d h x.fourth y.fourth
    ∙ ap (λ (n : ℕ). n * 2 ^ 8 + bit_xor d h)
    (xor_block 8 _ _ c g x.third y.third ∙ ap (λ (n : ℕ). n * 2 ^ 8 + bit_xor c g) (xor_block 8 a e b f x.second y.second))

and_bytes : (a b c d e f g h : ℕ) → Bytes a b c d → Bytes e f g h → Bytes (bit_and a e) (bit_and b f) (bit_and c g) (bit_and d h)
and_bytes a b c d e f g h x y = record {
  first = and_lt 8 a e x.first y.first;
  second = and_lt 8 b f x.second y.second;
  third = and_lt 8 c g x.third y.third;
  fourth = and_lt 8 d h x.fourth y.fourth;
}

without-word : (a b c d e f g h : ℕ) → Bytes a b c d → Bytes e f g h
    → without (word a b c d) (word e f g h) ≡ word (without a e) (without b f) (without c g) (without d h)
unfolding without
without-word a b c d e f g h x y =
    ap (bit_xor (word a b c d)) (and_word a b c d e f g h x y)
    ∙ xor-word a b c d (bit_and a e) (bit_and b f) (bit_and c g) (bit_and d h) x (and_bytes a b c d e f g h x y)

-- ---- a word and its turned one

module _ (x : ℕ) (h : x < 2 ^ word_bits) where
  bytes : Bytes (x / 16777216) (x / 65536 % 256) (x / 256 % 256) (x % 256)
  bytes = record { first = omega arith; second = omega arith; third = omega arith; fourth = omega arith }

  bytes-turned : Bytes (x % 256) (x / 256 % 256) (x / 65536 % 256) (x / 16777216)
  bytes-turned = record { first = omega arith; second = omega arith; third = omega arith; fourth = omega arith }

  by_bytes : x ≡ word (x / 16777216) (x / 65536 % 256) (x / 256 % 256) (x % 256)
  by_bytes = omega arith

  turned-by-bytes : turned x ≡ word (x % 256) (x / 256 % 256) (x / 65536 % 256) (x / 16777216)
  turned-by-bytes = omega arith

-- none of its bytes has a bit, in whatever order
none-turned : (a b c d : ℕ) → eqb (word a b c d) 0 ≡ eqb (word d c b a) 0
none-turned a b c d =
    same-yes (eqb (word a b c d) 0) (eqb (word d c b a) 0)
    (λ e. let z = eqb-true (word a b c d) 0 e in eq-eqb (word d c b a) 0 (omega arith))
    (λ e. let z = eqb-true (word d c b a) 0 e in eq-eqb (word a b c d) 0 (omega arith))

module _ (j c p : ℕ) (hj : j < 2 ^ word_bits) (hc : c < 2 ^ word_bits) (hp : p < 2 ^ word_bits) where
  abbrev left : ℕ → ℕ → ℕ → ℕ
  left x y z = without (bit_and x y) z

  straight : without (bit_and j c) p
      ≡ word (left (j / 16777216) (c / 16777216) (p / 16777216)) (left (j / 65536 % 256) (c / 65536 % 256) (p / 65536 % 256))
      (left (j / 256 % 256) (c / 256 % 256) (p / 256 % 256)) (left (j % 256) (c % 256) (p % 256))
  straight =
      ap₂ without (ap₂ bit_and (by_bytes j hj) (by_bytes c hc) ∙ and_word _ _ _ _ _ _ _ _ (bytes j hj) (bytes c hc)) (by_bytes p hp)
      ∙ without-word _ _ _ _ _ _ _ _ (and_bytes _ _ _ _ _ _ _ _ (bytes j hj) (bytes c hc)) (bytes p hp)

  other_way : without (bit_and (turned j) (turned c)) (turned p)
      ≡ word (left (j % 256) (c % 256) (p % 256)) (left (j / 256 % 256) (c / 256 % 256) (p / 256 % 256))
      (left (j / 65536 % 256) (c / 65536 % 256) (p / 65536 % 256)) (left (j / 16777216) (c / 16777216) (p / 16777216))
  other_way =
      ap₂ without
      (ap₂ bit_and (turned-by-bytes j hj) (turned-by-bytes c hc)
      ∙ and_word _ _ _ _ _ _ _ _ (bytes-turned j hj) (bytes-turned c hc)) (turned-by-bytes p hp)
      ∙ without-word _ _ _ _ _ _ _ _ (and_bytes _ _ _ _ _ _ _ _ (bytes-turned j hj) (bytes-turned c hc)) (bytes-turned p hp)

  pub none-left-turned : eqb (without (bit_and (turned j) (turned c)) (turned p)) 0 ≡ eqb (without (bit_and j c) p) 0
  none-left-turned =
      ap (λ (n : ℕ). eqb n 0) other_way
      ∙ none-turned (left (j % 256) (c % 256) (p % 256)) (left (j / 256 % 256) (c / 256 % 256) (p / 256 % 256))
      (left (j / 65536 % 256) (c / 65536 % 256) (p / 65536 % 256)) (left (j / 16777216) (c / 16777216) (p / 16777216))
      ∙ sym (ap (λ (n : ℕ). eqb n 0) straight)

-- a sample finds nothing
pub quiet-turned : (jets : ℕ) (x : Sample) (s : StringState) → jets < 2 ^ word_bits → x.commanded < 2 ^ word_bits
    → x.pressure < 2 ^ word_bits → quiet (turned jets) (turned_sample x) s ≡ quiet jets x s
unfolding quiet
quiet-turned jets x s hj hc hp =
    ap (λ (b : Bool). b && eqb s.standing.valves x.valves) (none-left-turned jets x.commanded x.pressure hj hc hp)

-- the words of an array
pub turned-at : (words : List ℕ) (s : ℕ) → s < string_count → string_count ≤ length words → get_or (turned_words words) s 0 ≡ turned (get_or words s 0)
unfolding turned_words
turned-at words s b long = each_at (λ k x. turned x) 0 words string_count s b long

-- what holds below k, and at k
pub below_next : (P : ℕ → Type 0) (k : ℕ) → ((j : ℕ) → j < k → P j) → P k → (j : ℕ) → j < k + 1 → P j
below_next P k before now j b = ⊎_elim (λ (e : j ≡ k). rw e now) (λ (m : j < k). before j m) (eq-or-lt_of_le (omega arith))
