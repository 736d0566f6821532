-- Parts put one behind the other into a slice: d at first, p over its first a bytes, then q over the next k. Assumes nothing.
use mathlib.Core.Path.{◌≡◌, refl, ap, ap₂, ◌∙◌}
use mathlib.Core.List.{List, [], ◌∷◌, ◌++◌, append_assoc, append-nil}
use Prim.Native.Nat.{ℕ, ◌+◌, ◌-◌, ◌*◌}
use native.Mathlib.Omega.{arith}
use borrow.Rule.Slice.PartMut.{put_mid}
use lib.ListN.{length, set, take, drop, drop_of_length-le, length-append, length-drop}
use lib.Seq.{sets, sets-eq, take_at}
use Rattle.cycle.specs.Size.{string_count, module_count}
use Rattle.feed.specs.Size.{word_length, wire_at, wire_length, path_at, samples_from, valves_in, sample_length, temperatures_from}
use Rattle.feed.specs.Size.{temperatures_length, requests_from, requests_length, drops_from, quantities_from, quantities_length, major_summed}
use Rattle.feed.proofs.Reports.Written.{put_next, set_last}

pub lay : (d p q x : List ℕ) (a k : ℕ) → x ≡ p ++ drop a d → length p ≡ a → put_mid a k x q ≡ (p ++ q) ++ drop (a + k) d
lay d p q x a k e l = ap (λ (t : List ℕ). put_mid a k t q) e ∙ put_next p d q a k l

-- up to the last byte
pub lay-last : (d p q x : List ℕ) (a k : ℕ) → x ≡ p ++ drop a d → length p ≡ a → length d ≡ a + k → put_mid a k x q ≡ p ++ q
lay-last d p q x a k e l h =
    lay d p q x a k e l
    ∙ ap (λ (t : List ℕ). (p ++ q) ++ t) (drop_of_length-le d {i = a + k} (omega arith))
    ∙ append-nil (p ++ q)

-- up to the end, wherever it is
pub lay-rest : (d p q x : List ℕ) (a k : ℕ) → x ≡ p ++ drop a d → length p ≡ a → length d ≡ a + k → put_mid a (length x - a) x q ≡ p ++ q
lay-rest d p q x a k e l h =
    let n : length x - a ≡ k = omega (arith, ap length e, length-append p (drop a d), length-drop a d) in
    ap (λ (m : ℕ). put_mid a m x q) n ∙ lay-last d p q x a k e l h

both_long : (p q : List ℕ) (a b : ℕ) → length p ≡ a → length q ≡ b → length (p ++ q) ≡ a + b
both_long p q a b e f = length-append p q ∙ ap₂ (λ (m n : ℕ). m + n) e f

-- three words and a byte
pub sample-laid : (d x y z : List ℕ) (v : ℕ) → length d ≡ sample_length → length x ≡ word_length → length y ≡ word_length
    → length z ≡ word_length
    → set (put_mid (2 * word_length) word_length (put_mid word_length word_length (x ++ drop word_length d) y) z) valves_in v
    ≡ x ++ (y ++ (z ++ (v ∷ [])))
sample-laid d x y z v l lx ly lz =
    let both = both_long x y word_length word_length lx ly in
    let two = lay d x y (x ++ drop word_length d) word_length word_length refl lx in
    let three = lay d (x ++ y) z _ (2 * word_length) word_length two both in
    ap (λ (t : List ℕ). set t valves_in v) three
    ∙ set_last d ((x ++ y) ++ z) valves_in v (both_long (x ++ y) z (2 * word_length) word_length both lz) l
    ∙ append_assoc (x ++ y) z (v ∷ [])
    ∙ append_assoc x y (z ++ (v ∷ []))

-- two bytes, a number of two, and a byte
pub head-laid : (d y : List ℕ) (m n path : ℕ) → length d ≡ samples_from → length y ≡ wire_length
    → set (put_mid wire_at wire_length (sets d 0 (m ∷ n ∷ [])) y) path_at path ≡ m ∷ n ∷ y ++ (path ∷ [])
head-laid d y m n path l ly =
    let mark = m ∷ n ∷ [] in
    let begun : sets d 0 mark ≡ mark ++ drop wire_at d = sets-eq mark d 0 (omega arith) in
    ap (λ (t : List ℕ). set t path_at path) (lay d mark y (sets d 0 mark) wire_at wire_length begun refl)
    ∙ set_last d (mark ++ y) path_at path (both_long mark y wire_at wire_length refl ly) l

-- what stands before the sum: the part that both kinds have, and for a major record the four behind it
pub minor-laid : (d c : List ℕ) (n : ℕ) → length c ≡ n → take n (c ++ drop n d) ≡ c
minor-laid d c n e = take_at c (drop n d) n e

-- the lengths of these, but for the drop bytes
abbrev heat : ℕ
heat = temperatures_length * string_count

abbrev asks : ℕ
asks = requests_length * string_count

abbrev fill : ℕ
fill = quantities_length * module_count

pub major-laid : (d c t a o q : List ℕ) → length c ≡ temperatures_from → length t ≡ heat → length a ≡ asks → length o ≡ string_count
    → length q ≡ fill
    → take major_summed
    (put_mid quantities_from fill
    (put_mid drops_from string_count (put_mid requests_from asks (put_mid temperatures_from heat (c ++ drop temperatures_from d) t) a) o) q)
    ≡ c ++ (t ++ (a ++ (o ++ q)))
major-laid d c t a o q lc lt la lo lq =
    let one = both_long c t temperatures_from heat lc lt in
    let two = both_long (c ++ t) a requests_from asks one la in
    let three = both_long ((c ++ t) ++ a) o drops_from string_count two lo in
    let four = both_long (((c ++ t) ++ a) ++ o) q quantities_from fill three lq in
    let x = lay d c t (c ++ drop temperatures_from d) temperatures_from heat refl lc in
    let y = lay d (c ++ t) a _ requests_from asks x one in
    let w = lay d ((c ++ t) ++ a) o _ drops_from string_count y two in
    let z = lay d (((c ++ t) ++ a) ++ o) q _ quantities_from fill w three in
    ap (take major_summed) z
    ∙ take_at ((((c ++ t) ++ a) ++ o) ++ q) (drop major_summed d) major_summed four
    ∙ append_assoc ((c ++ t) ++ a) o q
    ∙ append_assoc (c ++ t) a (o ++ q)
    ∙ append_assoc c t (a ++ (o ++ q))
