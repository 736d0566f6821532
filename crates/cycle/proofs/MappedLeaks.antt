-- 02, order 2: the mapped part of the leak word is all that the bad jets depend on, at every position by one law; a walk over the mapped
-- jets finds it, and a sweep over all words finds the whole. Assumes nothing.
use Rattle.std.proofs.Common.{◌≡◌, ℕ, zero, suc, ◌+◌, ◌-◌, ◌*◌, ◌/◌, ◌^◌, ◌<◌, Bool, true, false, not, ◌&&◌, ◌||◌, eqb, List, get_or, sym, refl, ap, ◌∙◌, ap₂, mod-eq_of_lt, add-one, arith, eqb-true}
use lib.Bits.{bit_and, bit_or, bit_xor, and_comm, and_mask, and_zero_l, or_zero_r}
use Rattle.bits.specs.Bit.{word_bits, bit, plus_bit, with_bit, pack}
use Rattle.bits.proofs.Yes.{and-true, or-false}
use Rattle.bits.proofs.Bits.{bit-and, bit-or, bits-same}
use Rattle.bits.proofs.Words.{bit-plus, pack-at, pack-lt, with-is-plus}
use Rattle.bits.proofs.Lowest.{bit-flipped}
use Rattle.cycle.specs.Size.{jet_count}
use Rattle.cycle.specs.Leak.{cold}
use Rattle.cycle.specs.Words.{jet_leaks, leak_word, bad_jets}
use Rattle.cycle.specs.declared.values.Temperatures.{Temperatures}
use Rattle.cycle.proofs.CutWords.{less-same}

-- ---- the leak word

pub leak-at : (t : Temperatures) (j : ℕ) → j < jet_count → bit j (leak_word t) ≡ jet_leaks t.words j
unfolding leak_word
leak-at t j = pack-at jet_count (jet_leaks t.words) j

-- where all jets are mapped, its mapped part is all of it
pub all-mapped : (t : Temperatures) → bit_and (2 ^ jet_count - 1) (leak_word t) ≡ leak_word t
unfolding leak_word
all-mapped t =
    and_comm (2 ^ jet_count - 1) (leak_word t)
    ∙ and_mask (leak_word t) jet_count
    ∙ mod-eq_of_lt (pack-lt jet_count (jet_leaks t.words))

-- the bad jets are the same by its mapped part, since only mapped ones are bad
pub bad-by-mapped : (mapped commanded driver leaking : ℕ)
    → bad_jets mapped commanded driver (bit_and mapped leaking) ≡ bad_jets mapped commanded driver leaking
unfolding bad_jets
bad-by-mapped mapped commanded driver leaking =
    less-same mapped (bit_or driver (bit_and mapped leaking)) (bit_or driver leaking) commanded commanded
    (λ j e.
    bit-or j driver (bit_and mapped leaking)
    ∙ ap (λ (b : Bool). bit j driver || b) (bit-and j mapped leaking ∙ ap (λ (m : Bool). m && bit j leaking) e)
    ∙ sym (bit-or j driver leaking))
    (λ j e. refl)

pub bad-by-found : (mapped commanded driver leaking : ℕ) {bad found : ℕ} → bad ≡ bad_jets mapped commanded driver found
    → found ≡ bit_and mapped leaking → bad ≡ bad_jets mapped commanded driver leaking
bad-by-found mapped commanded driver leaking e f =
    e ∙ ap (bad_jets mapped commanded driver) f ∙ bad-by-mapped mapped commanded driver leaking

-- ---- a walk: w has been found, the jets of `rest` are still to be visited, jet j of them now

walked-bit : (w r l e : Bool) → (e ≡ true → r ≡ true) → ((w || (e && l)) || ((r && not e) && l)) ≡ (w || (r && l))
walked-bit w r l true h = let q : r ≡ true = h refl in rw q (or-false (w || l))
walked-bit w r l false h = ap₂ (λ (x y : Bool). x || (y && l)) (or-false w) (and-true r)

walked : (w j rest leaking : ℕ) → bit j rest ≡ true
    → bit_or (plus_bit w j (bit j leaking)) (bit_and (bit_xor rest (2 ^ j)) leaking) ≡ bit_or w (bit_and rest leaking)
walked w j rest leaking e =
    bits-same (bit_or (plus_bit w j (bit j leaking)) (bit_and (bit_xor rest (2 ^ j)) leaking)) (bit_or w (bit_and rest leaking))
    (λ i.
    bit-or i (plus_bit w j (bit j leaking)) (bit_and (bit_xor rest (2 ^ j)) leaking)
    ∙ ap₂ (λ (x y : Bool). x || y)
    (bit-plus i w j (bit j leaking) ∙ ap (λ (b : Bool). bit i w || b) (at i (eqb i j) refl))
    (bit-and i (bit_xor rest (2 ^ j)) leaking ∙ ap (λ (b : Bool). b && bit i leaking) (bit-flipped i j rest e))
    ∙ walked-bit (bit i w) (bit i rest) (bit i leaking) (eqb i j) (λ p. ap (λ (x : ℕ). bit x rest) (eqb-true i j p) ∙ e)
    ∙ ap (λ (b : Bool). bit i w || b) (sym (bit-and i rest leaking))
    ∙ sym (bit-or i w (bit_and rest leaking)))
  where
    at : (i : ℕ) (b : Bool) → eqb i j ≡ b → (eqb i j && bit j leaking) ≡ (eqb i j && bit i leaking)
    at i true p = ap (λ (x : ℕ). eqb i j && bit x leaking) (sym (eqb-true i j p))
    at i false p = rw p

-- a turn of it: what is found and what is still to be found stay the leaks of all the jets that were asked for
pub walk_turn : (jets w j rest : ℕ) (t : Temperatures) (leaking : Bool) {found next : ℕ} → j < jet_count → bit j rest ≡ true
    → leaking ≡ jet_leaks t.words j → found ≡ plus_bit w j leaking → next ≡ bit_xor rest (2 ^ j)
    → bit_or w (bit_and rest (leak_word t)) ≡ bit_and jets (leak_word t) → bit_or found (bit_and next (leak_word t)) ≡ bit_and jets (leak_word t)
walk_turn jets w j rest t leaking l e q f n kept =
    ap₂ (λ (x y : ℕ). bit_or x (bit_and y (leak_word t))) (f ∙ ap (plus_bit w j) (q ∙ sym (leak-at t j l))) n
    ∙ walked w j rest (leak_word t) e
    ∙ kept

pub walk_ends : (jets w leaking : ℕ) {rest : ℕ} → rest ≡ 0 → bit_or w (bit_and rest leaking) ≡ bit_and jets leaking → w ≡ bit_and jets leaking
walk_ends jets w leaking e kept =
    sym (or_zero_r w)
    ∙ ap (bit_or w) (sym (and_zero_l leaking))
    ∙ ap (λ (x : ℕ). bit_or w (bit_and x leaking)) (sym e)
    ∙ kept

-- ---- a sweep over the words, two to a jet

-- what the lowest k words show
unfoldable pub swept : ℕ → List ℕ → ℕ
swept zero words = 0
swept (suc k) words = plus_bit (swept k words) (k / 2) (cold (get_or words k 0))

plus-twice : (w j : ℕ) (a b : Bool) → plus_bit (plus_bit w j a) j b ≡ plus_bit w j (a || b)
plus-twice w j true true =
    bits-same (bit_or (bit_or w (2 ^ j)) (2 ^ j)) (bit_or w (2 ^ j))
    (λ i.
    bit-or i (bit_or w (2 ^ j)) (2 ^ j)
    ∙ ap (λ (x : Bool). x || bit i (2 ^ j)) (bit-or i w (2 ^ j))
    ∙ again (bit i w) (bit i (2 ^ j))
    ∙ sym (bit-or i w (2 ^ j)))
  where
    again : (x y : Bool) → ((x || y) || y) ≡ (x || y)
    again true y = refl
    again false true = refl
    again false false = refl
plus-twice w j true false = refl
plus-twice w j false b = refl

swept-jets : (words : List ℕ) (j : ℕ) → swept (2 * j) words ≡ pack j (jet_leaks words)
unfolding swept pack
swept-jets words zero = refl
swept-jets words (suc j) =
    let twice : 2 * suc j ≡ suc (suc (2 * j)) = omega arith in
    let first : 2 * j / 2 ≡ j = omega arith in
    let second : suc (2 * j) / 2 ≡ j = omega arith in
    let next : suc (2 * j) ≡ 2 * j + 1 = omega arith in
    let fuel : Bool = cold (get_or words (2 * j) 0) in
    let oxidizer : Bool = cold (get_or words (suc (2 * j)) 0) in
    ap (λ (k : ℕ). swept k words) twice
    ∙ ap₂ (λ (x y : ℕ). plus_bit (plus_bit (swept (2 * j) words) x fuel) y oxidizer) first second
    ∙ plus-twice (swept (2 * j) words) j fuel oxidizer
    ∙ ap₂ (λ (w k : ℕ). plus_bit w j (fuel || cold (get_or words k 0))) (swept-jets words j) next

pub swept_all : (t : Temperatures) → swept (2 * jet_count) t.words ≡ leak_word t
unfolding leak_word
swept_all t = swept-jets t.words jet_count

pub sweep-turn : (words : List ℕ) (k : ℕ) {w : ℕ} {b : Bool} → k / 2 < word_bits → w ≡ swept k words → b ≡ cold (get_or words k 0)
    → with_bit w (k / 2) b ≡ swept (k + 1) words
unfolding swept
sweep-turn words k {w} {b} l e q = rw (add-one, q, e) (with-is-plus (swept k words) (k / 2) (cold (get_or words k 0)) l)
