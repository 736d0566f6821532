-- A hall that is written in bytes and read from them is the same hall. Assumes nothing.
use mathlib.Core.Path.{◌≡◌, refl, sym, ap, ◌∙◌}
use mathlib.Core.Bool.{Bool, true, false}
use mathlib.Core.List.{List, [], ◌∷◌, ◌++◌}
use Prim.Native.Nat.{ℕ, ◌+◌, ◌*◌, ◌^◌, ◌<◌}
use native.Mathlib.Nat.{zero-add, add-zero, add_assoc}
use native.Mathlib.Omega.{arith}
use lib.ListN.{length, get_or, get_or-append}
use lib.Seq.{ext_get_or}
use Rattle.cycle.specs.Size.{string_count, manifold_count, module_count}
use Rattle.cycle.specs.Each.{table}
use Rattle.cycle.specs.Map.{masks_of, past_masks}
use Rattle.cycle.specs.Banks.{no_bank}
use Rattle.cycle.specs.Hall.{past_string}
use Rattle.cycle.specs.declared.banks.Bank.{Bank}
use Rattle.cycle.specs.declared.hall.Hall.{Hall}
use Rattle.cycle.specs.declared.map.Masks.{Masks}
use Rattle.cycle.specs.declared.string.Standing.{Standing}
use Rattle.cycle.specs.declared.string.StringState.{StringState}
use Rattle.feed.specs.Size.{word_length, masks_length, map_length}
use Rattle.feed.specs.Bytes.{two, four, in_two, in_four}
use Rattle.feed.proofs.Records.NumbersInBytes.{two-in_two, four-in_four, two-stands, four-stands}
use Rattle.feed.proofs.Records.Tables.{table-length, table_at}
use Rattle.feed.proofs.Reports.Parts.{get_d_past}
use Rattle.feed.proofs.Reports.Stands.{Stands, front, back, part}
use Rattle.calls.specs.Layout.{standing_words, string_words, words_length, string_length, lesser_at, difference_at, bank_length}
use Rattle.calls.specs.Layout.{masks_from, strings_from, banks_from}
use Rattle.calls.specs.Layout.{flag_in, word_in, standing_in, string_in, masks_in, bank_in, hall_in}
use Rattle.calls.specs.Layout.{in_flag, in_words, words_of, other_words_of, string_words_of, in_string, in_bank}
use Rattle.calls.specs.Layout.{in_map, in_strings, in_banks, in_hall, FitString, FitHall}
use Rattle.calls.proofs.Laid.{standing-read, string-read, masks-read, bank-read, masks_no, string_no, bank_no}
use Rattle.calls.proofs.Laid.{words-length, string-length, bank-length, map-length, strings-length}

-- a list as long as the rule's, element by element
listed : {A : Type 0} (d : A) (f : ℕ → A) (n : ℕ) (l : List A) → length l ≡ n → ((i : ℕ) → i < n → get_or l i d ≡ f i) → l ≡ table n f
listed d f n l e at =
    ext_get_or d l (table n f) (e ∙ sym (table-length f n))
    (λ i b. let c : i < n = omega (arith, e) in at i c ∙ sym (table_at f d n i c))

-- ---- each part read where it stands

module _ (l : List ℕ) where
  word : (n : ℕ) (w : List ℕ) (a : ℕ) → Stands l (in_words n w) a → (j : ℕ) → j < n → get_or w j 0 < 2 ^ 32 → get_or w j 0 ≡ word_in l a j
  word n w a h j b fit =
      sym
      (four-stands l (in_four (get_or w j 0)) (a + word_length * j)
      (part l n word_length (λ k. in_four (get_or w k 0)) (λ k. refl) a h j b)
      ∙ four-in_four (get_or w j 0) fit)

  flag-back : (i : ℕ) (b : Bool) → get_or l i 0 ≡ in_flag b → b ≡ flag_in l i
  flag-back i true e = rw e refl
  flag-back i false e = rw e refl

  standing-back : (a k : ℕ) (x : Standing) → length x.saved ≡ manifold_count
      → ((j : ℕ) → j < standing_words → get_or (words_of x) j 0 ≡ word_in l a (k + j)) → x ≡ standing_in l a k
  standing-back a k x e read =
      standing-read l a k (read 0 (omega arith) ∙ ap (λ (n : ℕ). word_in l a n) (add-zero k)) (read 1 (omega arith))
      (listed 0 (λ m. word_in l a (k + 2 + m)) manifold_count x.saved e
      (λ m b.
      sym (get_d_past (x.fail ∷ x.valves ∷ []) x.saved 2 m refl)
      ∙ read (2 + m) (omega arith)
      ∙ ap (λ (n : ℕ). word_in l a n) (sym (add_assoc k 2 m))))

  string-back : (a : ℕ) (x : StringState) → FitString x → Stands l (in_string x) a → x ≡ string_in l a
  unfolding in_string string_words_of
  string-back a x fit h =
      let w = string_words_of x in
      let standing = words_of x.standing in
      let good = words_of x.good in
      let others = other_words_of x in
      let flag = in_flag x.lost ∷ [] in
      let ls : length standing ≡ standing_words = omega (arith, fit.saved) in
      let lg : length good ≡ standing_words = omega (arith, fit.kept) in
      let read : (j : ℕ) → j < string_words → get_or w j 0 ≡ word_in l a j =
      λ j b. word string_words w a (front l (in_words string_words w) flag a h) j b (fit.words j) in
      let now : (j : ℕ) → j < standing_words → get_or standing j 0 ≡ word_in l a (0 + j) =
      λ j b.
      sym (get_or-append standing (good ++ others) 0 j (omega (arith, ls)))
      ∙ read j (omega arith)
      ∙ ap (λ (n : ℕ). word_in l a n) (sym (zero-add j)) in
      let kept : (j : ℕ) → j < standing_words → get_or good j 0 ≡ word_in l a (standing_words + j) =
      λ j b.
      sym (get_d_past standing (good ++ others) standing_words j ls ∙ get_or-append good others 0 j (omega (arith, lg)))
      ∙ read (standing_words + j) (omega arith) in
      let other : (j : ℕ) → j < length others → get_or others j 0 ≡ word_in l a (standing_words + (standing_words + j)) =
      λ j b.
      sym
      (get_d_past standing (good ++ others) standing_words (standing_words + j) ls ∙ get_d_past good others standing_words j lg)
      ∙ read (standing_words + (standing_words + j)) (omega arith) in
      let lost : get_or l (a + words_length) 0 ≡ in_flag x.lost =
      h words_length (omega (arith, string-length x)) ∙ get_d_past (in_words string_words w) flag words_length 0 (words-length string_words w) in
      string-read l a (standing-back a 0 x.standing fit.saved now) (standing-back a standing_words x.good fit.kept kept)
      (other 0 (omega arith)) (other 1 (omega arith)) (other 2 (omega arith)) (other 3 (omega arith)) (other 4 (omega arith))
      (other 5 (omega arith)) (other 6 (omega arith)) (other 7 (omega arith)) (other 8 (omega arith))
      (flag-back (a + words_length) x.lost lost)

  masks-back : (a : ℕ) (m : Masks) → length m.words ≡ manifold_count → ((k : ℕ) → get_or m.words k 0 < 2 ^ 32)
      → Stands l (in_words manifold_count m.words) a → m ≡ masks_in l a
  masks-back a m e fit h =
      masks-read l a
      (listed 0 (λ j. word_in l a (0 + j)) manifold_count m.words e
      (λ j b. word manifold_count m.words a h j b (fit j) ∙ ap (λ (n : ℕ). word_in l a n) (sym (zero-add j))))

  bank-back : (a : ℕ) (x : Bank) → x.lesser < 2 ^ 16 → x.difference < 2 ^ 16 → Stands l (in_bank x) a → x ≡ bank_in l a
  unfolding in_bank
  bank-back a x fit fits h =
      let flags = in_flag x.unbalanced ∷ in_flag x.oxidizer ∷ [] in
      let q = in_two x.lesser in
      let d = in_two x.difference in
      let first : get_or l a 0 ≡ in_flag x.unbalanced = ap (λ (n : ℕ). get_or l n 0) (sym (add-zero a)) ∙ h 0 (omega arith) in
      let behind = back l flags (q ++ d) a lesser_at refl h in
      let lesser : two l (a + lesser_at) ≡ x.lesser =
      two-stands l q (a + lesser_at) (front l q d (a + lesser_at) behind) ∙ two-in_two x.lesser fit in
      let difference : two l (a + difference_at) ≡ x.difference =
      two-stands l d (a + difference_at) (back l (flags ++ q) d a difference_at refl h) ∙ two-in_two x.difference fits in
      bank-read l a (flag-back a x.unbalanced first) (flag-back (a + 1) x.oxidizer (h 1 (omega arith))) (sym lesser)
      (sym difference)

-- ---- the whole

whole : (l : List ℕ) (h : Hall) → four l 0 ≡ h.n → h.masks ≡ table string_count (masks_no l) → h.strings ≡ table string_count (string_no l)
    → h.banks ≡ table module_count (bank_no l) → hall_in l ≡ h
unfolding hall_in
whole l h n m s b = rw (n, sym m, sym s, sym b) refl

pub read-written : (h : Hall) → FitHall h → hall_in (in_hall h) ≡ h
unfolding in_hall
read-written h fit =
    let l = in_hall h in
    let map = in_map h.masks in
    let strings = in_strings h.strings in
    let banks = in_banks h.banks in
    let mask-words : ℕ → List ℕ = λ s. in_words manifold_count (masks_of h.masks s) in
    let string_bytes_lem : ℕ → List ℕ = λ s. in_string (get_or h.strings s past_string) in
    let bank-bytes : ℕ → List ℕ = λ m. in_bank (get_or h.banks m no_bank) in
    let all : Stands l (in_four h.n ++ (map ++ (strings ++ banks))) 0 = λ i b. ap (λ (n : ℕ). get_or l n 0) (zero-add i) in
    let number : four l 0 ≡ h.n =
    four-stands l (in_four h.n) 0 (front l (in_four h.n) (map ++ (strings ++ banks)) 0 all) ∙ four-in_four h.n fit.number in
    let behind = back l (in_four h.n) (map ++ (strings ++ banks)) 0 word_length refl all in
    let behind-map = back l map (strings ++ banks) masks_from map_length (map-length h.masks) behind in
    let behind-strings = back l strings banks strings_from (string_length * string_count) (strings-length h.strings) behind-map in
    whole l h number
    (listed past_masks (masks_no l) string_count h.masks fit.map
    (λ s b.
    masks-back l (masks_from + masks_length * s) (get_or h.masks s past_masks) (fit.masks s b) (fit.words s)
    (part l string_count masks_length mask-words (λ k. words-length manifold_count (masks_of h.masks k)) masks_from
    (front l map (strings ++ banks) masks_from behind) s b)))
    (listed past_string (string_no l) string_count h.strings fit.strings
    (λ s b.
    string-back l (strings_from + string_length * s) (get_or h.strings s past_string) (fit.string s b)
    (part l string_count string_length string_bytes_lem (λ k. string-length (get_or h.strings k past_string)) strings_from
    (front l strings banks strings_from behind-map) s b)))
    (listed no_bank (bank_no l) module_count h.banks fit.banks
    (λ m b.
    bank-back l (banks_from + bank_length * m) (get_or h.banks m no_bank) (fit.lesser m) (fit.difference m)
    (part l module_count bank_length bank-bytes (λ k. bank-length (get_or h.banks k no_bank)) banks_from behind-strings m b)))
