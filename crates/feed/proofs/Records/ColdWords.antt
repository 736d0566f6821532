-- Temperatures by their bytes: what a cold word's two bytes are; where all jets of a string, or of all strings, are mapped, one leaks if a
-- word is cold; where not, a walk over the mapped jets tells it, both words of a jet at once; and steps 5 to 8 of a major record find
-- nothing by its values if they find nothing by its bytes. Assumes nothing.
use Rattle.std.proofs.Common.{◌≡◌, ℕ, zero, suc, ◌+◌, ◌-◌, ◌*◌, ◌/◌, ◌%◌, ◌^◌, ◌<◌, ◌≤◌, Bool, true, false, not, ◌&&◌, ◌||◌, eqb, leb, ◌⊎◌, ◌↔◌, List, get_or, sym, refl, ap, ◌∙◌, ap₂, inl, inr, ⊎_elim, mul-zero, mul-suc, arith, eq-eqb, eqb-true, le-leb, leb-true}
use lib.Bits.{bit_and, bit_or, and_zero_l}
use lib.Count.{count_trailing_zeros}
use Rattle.bits.specs.Bit.{word_bits, bit, meets, any, every}
use Rattle.bits.proofs.Bits.{bit-or, bit-one}
use Rattle.bits.proofs.Every.{every-at, every-same}
use Rattle.bits.proofs.Lowest.{lowest_set, meets-by-lowest}
use Rattle.bits.proofs.Words.{any_same, some-bit, pack-lt, meets-found, meets_at, meets-or}
use Rattle.bits.proofs.Yes.{and_left, and_right, and_both, or_cases, or_left, or_right, or-false, or-neither, same-yes}
use Rattle.cycle.specs.Size.{string_count, manifold_count, jet_count}
use Rattle.cycle.specs.Leak.{cold, leaks, ColdWord, WarmWord}
use Rattle.cycle.specs.Map.{masks_of, mapped}
use Rattle.cycle.specs.Words.{jet_leaks, leak_word}
use Rattle.cycle.specs.Hall.{no_sample, no_temperatures, no_requests, string_of}
use Rattle.cycle.specs.Calm.{mapped_words, finds_none, some_leak, quiet_major}
use Rattle.cycle.specs.declared.hall.Hall.{Hall}
use Rattle.cycle.specs.declared.values.Temperatures.{Temperatures}
use Rattle.cycle.specs.declared.values.Requests.{Requests}
use Rattle.cycle.specs.declared.values.Sample.{Sample}
use Rattle.cycle.proofs.Leaks.{cold-exactly, warm-exactly}
use Rattle.cycle.proofs.MappedLeaks.{leak-at, all-mapped}
use Rattle.cycle.proofs.CalmHalls.{mapped_at}
use Rattle.feed.specs.Size.{temperature_length, temperature_count, temperatures_from, temperatures_length, samples_from, sample_length}
use Rattle.feed.specs.Size.{requests_from, requests_length, drops_from, path_at}
use Rattle.feed.specs.Bytes.{two}
use Rattle.feed.specs.Values.{sample_at, samples_of, minor_of, words_at, temperatures_at, temperatures_of, requests_at, requests_of, major_of}
use Rattle.feed.specs.Inside.Calm.{cold_among, some_cold, all_mapped, leak_at, none_found}
use Rattle.feed.proofs.Records.Tables.{table_at}

-- ---- a temperature word, read with the low byte first: w % 256 is its high byte. It is cold if it is small or below zero

abbrev small : ℕ → Bool
small w = eqb (w % 256) 0 && leb (w / 256) 63

abbrev below_zero : ℕ → Bool
below_zero w = leb 128 (w % 256)

abbrev word : ℕ → ℕ
word w = w % 256 * 256 + w / 256

cold-by-bytes : (w : ℕ) → w < 65536 → (small w || below_zero w) ≡ cold (word w)
cold-by-bytes w h =
    let exactly : (cold (word w) ≡ true) ↔ ColdWord (word w) = cold-exactly (word w) (omega arith) in
    same-yes (small w || below_zero w) (cold (word w)) (λ e. exactly.1 (told (or_cases (small w) (below_zero w) e))) (λ e. by (exactly.0 e))
  where
    told : (small w ≡ true) ⊎ (below_zero w ≡ true) → ColdWord (word w)
    told (inl s) =
        let high = eqb-true (w % 256) 0 (and_left _ (leb (w / 256) 63) s) in
        let low = leb-true (w / 256) 63 (and_right (eqb (w % 256) 0) _ s) in
        inl (omega (arith, high, low))
    told (inr b) = let high = leb-true 128 (w % 256) b in inr (omega (arith, high), omega (arith, h))

    by : ColdWord (word w) → (small w || below_zero w) ≡ true
    by (inl s) =
        or_left (small w) (below_zero w)
        (and_both _ _ (eq-eqb (w % 256) 0 (omega (arith, s))) (le-leb (w / 256) 63 (omega (arith, s))))
    by (inr b) = or_right (small w) (below_zero w) (le-leb 128 (w % 256) (omega (arith, b.0, h)))

or_swap : (a b c d : Bool) → ((a || c) || (b || d)) ≡ ((a || b) || (c || d))
or_swap true b c d = refl
or_swap false true true d = refl
or_swap false true false d = refl
or_swap false false c d = refl

-- one word more, at place p: its test beside the gathered ones
pub cold-more : (l : List ℕ) (p w : ℕ) (a b c : Bool) → w % 256 ≡ get_or l p 0 → w / 256 ≡ get_or l (p + 1) 0 → w < 65536 → (a || b) ≡ c
    → ((a || small w) || (b || below_zero w)) ≡ (c || cold (two l p))
cold-more l p w a b c high low h e =
    or_swap a b (small w) (below_zero w)
    ∙ ap₂ (λ (x y : Bool). x || y) e (cold-by-bytes w h ∙ ap₂ (λ (x y : ℕ). cold (x * 256 + y)) high low)

-- ---- words part by part

or_assoc : (a b c : Bool) → ((a || b) || c) ≡ (a || (b || c))
or_assoc true b c = refl
or_assoc false b c = refl

any-plus : (n m : ℕ) (g : ℕ → Bool) → any (n + m) g ≡ (any n g || any m (λ k. g (n + k)))
unfolding any
any-plus n zero g = let none : n + zero ≡ n = omega arith in ap (λ (j : ℕ). any j g) none ∙ sym (or-false (any n g))
any-plus n (suc m) g =
    let one_more : n + suc m ≡ suc (n + m) = omega arith in
    ap (λ (j : ℕ). any j g) one_more
    ∙ ap (λ (b : Bool). b || g (n + m)) (any-plus n m g)
    ∙ or_assoc (any n g) (any m (λ k. g (n + k))) (g (n + m))

any-by-parts : (m n : ℕ) (g : ℕ → Bool) → any (m * n) g ≡ any n (λ j. any m (λ k. g (m * j + k)))
unfolding any
any-by-parts m zero g = let none : m * zero ≡ 0 = mul-zero m in ap (λ (j : ℕ). any j g) none
any-by-parts m (suc n) g =
    let one_more : m * suc n ≡ m * n + m = mul-suc m n in
    ap (λ (j : ℕ). any j g) one_more
    ∙ any-plus (m * n) m g
    ∙ ap (λ (b : Bool). b || any m (λ k. g (m * n + k))) (any-by-parts m n g)

word_at : (l : List ℕ) (i k : ℕ) → k < temperature_count → get_or (temperatures_at l i).words k 0 ≡ two l (i + temperature_length * k)
unfolding words_at
word_at l i k b = table_at (λ k. two l (i + temperature_length * k)) 0 temperature_count k b

pub cold-leaks : (l : List ℕ) (i : ℕ) → some_cold l i ≡ some_leak (2 ^ jet_count - 1) (temperatures_at l i)
unfolding any cold_among leak_word
cold-leaks l i =
    let t : Temperatures = temperatures_at l i in
    sym
    (ap (λ (w : ℕ). not (eqb w 0)) (all-mapped t)
    ∙ some-bit jet_count (leak_word t) (pack-lt jet_count (jet_leaks t.words))
    ∙ any_same jet_count _ _ (λ j b. leak-at t j b)
    ∙ sym (any-by-parts 2 jet_count (λ k. cold (get_or t.words k 0)))
    ∙ any_same temperature_count _ _ (λ k b. ap cold (word_at l i k b)))

-- ---- both words of a jet as one number w, fuel high, and d, which is w less 64 in both halves: where a sign bit is set in either, the jet
-- leaks. (A borrow from the fuel half changes nothing: the oxidizer word is cold then.)

abbrev pub signs : ℕ
signs = 2147516416

abbrev pub least_warm : ℕ
least_warm = 4194368

sign_at : (j : ℕ) → bit j signs ≡ (eqb j 31 || eqb j 15)
sign_at j =
    let both : signs ≡ bit_or (2 ^ 31) (2 ^ 15) = refl in
    ap (bit j) both ∙ bit-or j (2 ^ 31) (2 ^ 15) ∙ ap₂ (λ (x y : Bool). x || y) (bit-one j 31) (bit-one j 15)

sign-bits : (v : ℕ) → meets v signs ≡ (bit 31 v || bit 15 v)
sign-bits v =
    same-yes (meets v signs) (bit 31 v || bit 15 v)
    (λ e.
    let x = meets-found v signs e in
    ⊎_elim (λ (p : eqb x.0 31 ≡ true). or_left (bit 31 v) (bit 15 v) (ap (λ (i : ℕ). bit i v) (sym (eqb-true x.0 31 p)) ∙ x.1))
    (λ (p : eqb x.0 15 ≡ true). or_right (bit 31 v) (bit 15 v) (ap (λ (i : ℕ). bit i v) (sym (eqb-true x.0 15 p)) ∙ x.1))
    (or_cases (eqb x.0 31) (eqb x.0 15) (sym (sign_at x.0) ∙ x.2)))
    (λ e.
    ⊎_elim (λ (p : bit 31 v ≡ true). meets_at v signs 31 p (sign_at 31)) (λ (p : bit 15 v ≡ true). meets_at v signs 15 p (sign_at 15))
    (or_cases (bit 31 v) (bit 15 v) e))

high-sign : (v : ℕ) → 2147483648 ≤ v → v < 4294967296 → meets v signs ≡ true
unfolding bit
high-sign v l h =
    let one : v / 2147483648 ≡ 1 = omega arith in
    sign-bits v ∙ or_left (bit 31 v) (bit 15 v) (ap (λ (n : ℕ). eqb (n % 2) 1) one)

low-sign : (v : ℕ) → v / 32768 % 2 ≡ 1 → meets v signs ≡ true
unfolding bit
low-sign v e = sign-bits v ∙ or_right (bit 31 v) (bit 15 v) (eq-eqb (v / 32768 % 2) 1 e)

no_sign : (v : ℕ) → v / 2147483648 % 2 ≡ 0 → v / 32768 % 2 ≡ 0 → meets v signs ≡ false
unfolding bit
no_sign v e f =
    sign-bits v
    ∙ or-neither (bit 31 v) (bit 15 v) (ap (λ (n : ℕ). eqb n 1) e) (ap (λ (n : ℕ). eqb n 1) f)

pair-leaks : (w d : ℕ) → w < 4294967296 → d < 4294967296 → (d + least_warm) % 4294967296 ≡ w
    → (meets w signs || meets d signs) ≡ leaks (w / 65536) (w % 65536)
pair-leaks w d h g e = by (cold (w / 65536)) (cold (w % 65536)) refl refl
  where
    found : (meets w signs ≡ true) ⊎ (meets d signs ≡ true) → (meets w signs || meets d signs) ≡ true
    found (inl p) = or_left (meets w signs) (meets d signs) p
    found (inr p) = or_right (meets w signs) (meets d signs) p

    by_first : ColdWord (w / 65536) → (meets w signs ≡ true) ⊎ (meets d signs ≡ true)
    by_first (inl s) =
        let less : w < least_warm = omega (arith, s) in
        inr (high-sign d (omega (arith, less, g, e)) g)
    by_first (inr b) = inl (high-sign w (omega (arith, b.0)) h)

    by-second : ColdWord (w % 65536) → (meets w signs ≡ true) ⊎ (meets d signs ≡ true)
    by-second (inl s) = inr (low-sign d (omega (arith, s, h, g, e)))
    by-second (inr b) = inl (low-sign w (omega (arith, b.0, h)))

    by : (a b : Bool) → cold (w / 65536) ≡ a → cold (w % 65536) ≡ b → (meets w signs || meets d signs) ≡ leaks (w / 65536) (w % 65536)
    by true b p q =
        found (by_first ((cold-exactly (w / 65536) (omega (arith, h))).0 p)) ∙ sym (or_left (cold (w / 65536)) (cold (w % 65536)) p)
    by false true p q =
        found (by-second ((cold-exactly (w % 65536) (omega arith)).0 q)) ∙ sym (or_right (cold (w / 65536)) (cold (w % 65536)) q)
    by false false p q =
        let f : WarmWord (w / 65536) = (warm-exactly (w / 65536) (omega (arith, h))).0 p in
        let o : WarmWord (w % 65536) = (warm-exactly (w % 65536) (omega arith)).0 q in
        or-neither (meets w signs) (meets d signs)
        (no_sign w (omega (arith, f.1, h)) (omega (arith, o.1)))
        (no_sign d (omega (arith, f.0, f.1, o.0, o.1, h, g, e)) (omega (arith, f.0, f.1, o.0, o.1, h, g, e)))
        ∙ sym (or-neither (cold (w / 65536)) (cold (w % 65536)) p q)

-- ---- a walk over the mapped jets: `words` and `less` have gathered what both are, the jets of `rest` are still to be visited

abbrev pub Walked : List ℕ → ℕ → ℕ → ℕ → ℕ → ℕ → Type 0
Walked l i jets words less rest =
    ((meets words signs || meets less signs) || some_leak rest (temperatures_at l i)) ≡ some_leak jets (temperatures_at l i)

pub walk_begins : (l : List ℕ) (i jets : ℕ) → Walked l i jets 0 0 jets
unfolding meets
walk_begins l i jets = refl

jet-at : (l : List ℕ) (i j : ℕ) → j < jet_count
    → bit j (leak_word (temperatures_at l i)) ≡ leaks (two l (i + 4 * j)) (get_or l (i + 4 * j + 2) 0 * 256 + get_or l (i + 4 * j + 3) 0)
jet-at l i j b =
    let t : Temperatures = temperatures_at l i in
    let first : i + temperature_length * (2 * j) ≡ i + 4 * j = omega arith in
    let second : i + temperature_length * (2 * j + 1) ≡ i + 4 * j + 2 = omega arith in
    let last : i + 4 * j + 2 + 1 ≡ i + 4 * j + 3 = omega arith in
    leak-at t j b
    ∙ ap₂ leaks (word_at l i (2 * j) (omega arith) ∙ ap (two l) first)
    (word_at l i (2 * j + 1) (omega arith)
    ∙ ap (two l) second
    ∙ ap (λ (p : ℕ). get_or l (i + 4 * j + 2) 0 * 256 + get_or l p 0) last)

-- the lowest jet that is left is visited
pub walk_turn : (l : List ℕ) (i jets words less rest w d : ℕ) → 0 < rest → rest < 2 ^ word_bits → w < 4294967296 → d < 4294967296
    → (d + least_warm) % 4294967296 ≡ w
    → (let p = i + 4 * count_trailing_zeros word_bits rest in
    (w / 65536 ≡ two l p) × (w % 65536 ≡ get_or l (p + 2) 0 * 256 + get_or l (p + 3) 0))
    → Walked l i jets words less rest → Walked l i jets (bit_or words w) (bit_or less d) (bit_and rest (rest - 1))
unfolding meets
walk_turn l i jets words less rest w d some h v g e halves walked =
    let leaking : ℕ = leak_word (temperatures_at l i) in
    let j : ℕ = count_trailing_zeros word_bits rest in
    let next : ℕ = bit_and rest (rest - 1) in
    let before : Bool = meets words signs || meets less signs in
    let now : (meets w signs || meets d signs) ≡ bit j leaking =
    pair-leaks w d v g e ∙ ap₂ leaks halves.0 halves.1 ∙ sym (jet-at l i j (lowest_set word_bits rest some h).0) in
    ap (λ (b : Bool). b || meets next leaking)
    (ap₂ (λ (x y : Bool). x || y) (meets-or words w signs) (meets-or less d signs)
    ∙ or_swap (meets words signs) (meets less signs) (meets w signs) (meets d signs)
    ∙ ap (λ (b : Bool). before || b) now)
    ∙ or_assoc before (bit j leaking) (meets next leaking)
    ∙ ap (λ (b : Bool). before || b) (sym (meets-by-lowest word_bits rest leaking some h))
    ∙ walked

pub walk_ends : (l : List ℕ) (i jets words less : ℕ) {rest : ℕ} → rest ≡ 0 → Walked l i jets words less rest
    → meets (bit_or words less) signs ≡ some_leak jets (temperatures_at l i)
walk_ends l i jets words less {rest} e walked =
    let leaking : ℕ = leak_word (temperatures_at l i) in
    let none : some_leak rest (temperatures_at l i) ≡ false =
    ap (λ (r : ℕ). not (eqb (bit_and r leaking) 0)) e ∙ ap (λ (r : ℕ). not (eqb r 0)) (and_zero_l leaking) in
    meets-or words less signs
    ∙ sym (or-false (meets words signs || meets less signs))
    ∙ ap (λ (b : Bool). (meets words signs || meets less signs) || b) (sym none)
    ∙ walked

-- ---- all strings

-- where all jets of all are mapped, one leaks if a word of all is cold
pub all-cold-leaks : (l jets : List ℕ) → all_mapped jets ≡ true
    → cold_among (string_count * temperature_count) l temperatures_from ≡ any string_count (leak_at l jets)
unfolding cold_among all_mapped
all-cold-leaks l jets all =
    any-by-parts temperature_count string_count (λ k. cold (two l (temperatures_from + temperature_length * k)))
    ∙ any_same string_count _ _
    (λ s b.
    any_same temperature_count _ _
    (λ k d.
    let from = temperatures_from + temperatures_length * s in
    let place : temperatures_from + temperature_length * (temperature_count * s + k) ≡ from + temperature_length * k = omega arith in
    ap (λ (p : ℕ). cold (two l p)) place)
    ∙ cold-leaks l (temperatures_from + temperatures_length * s)
    ∙ ap (λ (j : ℕ). some_leak j (temperatures_at l (temperatures_from + temperatures_length * s)))
    (sym (eqb-true (get_or jets s 0) (2 ^ jet_count - 1) (every-at string_count _ all s b))))

pub quiet_told : (l jets : List ℕ) (h : Hall) → jets ≡ mapped_words h.masks
    → (eqb (get_or l path_at 0) 0
    && (every string_count (λ s. none_found l (get_or jets s 0) (string_of h s).on (string_of h s).close s)
    && not (any string_count (leak_at l jets))))
    ≡ quiet_major (major_of l) h
unfolding quiet_major major_of minor_of samples_of temperatures_of requests_of
quiet_told l jets h e =
    let jet : (s : ℕ) → s < string_count → get_or jets s 0 ≡ mapped manifold_count (masks_of h.masks s) =
    λ s b. ap (λ (j : List ℕ). get_or j s 0) e ∙ mapped_at h.masks s b in
    ap₂ (λ (a b : Bool). eqb (get_or l path_at 0) 0 && (a && not b))
    (every-same string_count _ _
    (λ s b.
    ap (λ (j : ℕ). none_found l j (string_of h s).on (string_of h s).close s) (jet s b)
    ∙ ap₂ (λ (x : Sample) (q : Requests).
    finds_none (mapped manifold_count (masks_of h.masks s)) x q (string_of h s).on (string_of h s).close)
    (sym (table_at (λ k. sample_at l (samples_from + sample_length * k)) no_sample string_count s b))
    (sym (table_at (λ k. requests_at l (requests_from + requests_length * k) (drops_from + k)) no_requests string_count s b))))
    (any_same string_count _ _
    (λ s b.
    ap₂ (λ (j : ℕ) (t : Temperatures). some_leak j t) (jet s b)
    (sym (table_at (λ k. temperatures_at l (temperatures_from + temperatures_length * k)) no_temperatures string_count s b))))
