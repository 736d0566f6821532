-- A hall's parts read and laid out, over plain values: what the fields are, and the parts one behind the other. Assumes nothing.
use mathlib.Core.Path.{◌≡◌, refl, sym, ap, ap₂, ◌∙◌}
use mathlib.Core.Bool.{Bool}
use mathlib.Core.List.{List, [], ◌∷◌, ◌++◌, append_assoc, append-nil}
use Prim.Native.Nat.{ℕ, zero, suc, ◌+◌, ◌*◌}
use native.Mathlib.Nat.{add-zero, add-suc}
use native.Mathlib.Omega.{arith}
use borrow.Rule.Slice.PartMut.{put_mid}
use lib.ListN.{length, get_or, drop, drop_of_length-le, length-append, get_or-append}
use Rattle.cycle.specs.Size.{string_count, manifold_count, module_count}
use Rattle.cycle.specs.Map.{masks_of}
use Rattle.cycle.specs.Hall.{past_string}
use Rattle.cycle.specs.declared.banks.Bank.{Bank}
use Rattle.cycle.specs.declared.hall.Hall.{Hall}
use Rattle.cycle.specs.declared.map.Masks.{Masks}
use Rattle.cycle.specs.declared.string.Standing.{Standing}
use Rattle.cycle.specs.declared.string.StringState.{StringState}
use Rattle.feed.specs.Size.{word_length, masks_length, map_length}
use Rattle.feed.specs.Bytes.{two, in_four, parts}
use Rattle.feed.proofs.Reports.Parts.{get_d_past, parts-length, parts_same}
use Rattle.feed.proofs.Reports.Written.{put_next}
use Rattle.calls.specs.Layout.{standing_words, off_from, on_from, over_from, close_at, string_words, words_length}
use Rattle.calls.specs.Layout.{string_length, lesser_at, difference_at, bank_length, masks_from, strings_from, banks_from, hall_length}
use Rattle.calls.specs.Layout.{flag_in, word_in, per_manifold, standing_in, string_in, masks_in, bank_in}
use Rattle.calls.specs.Layout.{in_flag, in_words, string_words_of, in_string, in_bank, in_map, in_strings, in_banks, in_hall}

-- ---- read

module _ (l : List ℕ) (i : ℕ) where
  pub standing-read : (k : ℕ) {f v : ℕ} {s : List ℕ} → f ≡ word_in l i k → v ≡ word_in l i (k + 1) → s ≡ per_manifold l i (k + 2)
      → ◌≡◌ {A = Standing} (record { fail = f; valves = v; saved = s }) (standing_in l i k)
  standing-read k e f g = rw (e, f, g) refl

  pub string-read : {s g : Standing} {a b c d e f p q w : ℕ} {t : Bool} → s ≡ standing_in l i 0 → g ≡ standing_in l i standing_words
      → a ≡ word_in l i off_from → b ≡ word_in l i (off_from + 1) → c ≡ word_in l i (off_from + 2)
      → d ≡ word_in l i on_from → e ≡ word_in l i (on_from + 1) → f ≡ word_in l i (on_from + 2)
      → p ≡ word_in l i over_from → q ≡ word_in l i (over_from + 1) → w ≡ word_in l i close_at → t ≡ flag_in l (i + words_length)
      → ◌≡◌ {A = StringState}
      (record {
        standing = s;
        good = g;
        off = record { newest = a; older = b; oldest = c };
        on = record { newest = d; older = e; recheck = f };
        over = record { inhibit = p; reenable = q };
        close = w;
        lost = t;
      })
      (string_in l i)
  string-read h₁ h₂ h₃ h₄ h₅ h₆ h₇ h₈ h₉ h₁₀ h₁₁ h₁₂ = rw (h₁, h₂, h₃, h₄, h₅, h₆, h₇, h₈, h₉, h₁₀, h₁₁, h₁₂) refl

  pub masks-read : {w : List ℕ} → w ≡ per_manifold l i 0 → ◌≡◌ {A = Masks} (record { words = w }) (masks_in l i)
  masks-read e = rw e refl

  pub bank-read : {u o : Bool} {q d : ℕ} → u ≡ flag_in l i → o ≡ flag_in l (i + 1) → q ≡ two l (i + lesser_at)
      → d ≡ two l (i + difference_at)
      → ◌≡◌ {A = Bank} (record { unbalanced = u; oxidizer = o; lesser = q; difference = d }) (bank_in l i)
  bank-read e f g h = rw (e, f, g, h) refl

-- the masks of string s, string s and bank m
module _ (l : List ℕ) where
  abbrev pub masks_no : ℕ → Masks
  masks_no s = masks_in l (masks_from + masks_length * s)

  abbrev pub string_no : ℕ → StringState
  string_no s = string_in l (strings_from + string_length * s)

  abbrev pub bank_no : ℕ → Bank
  bank_no m = bank_in l (banks_from + bank_length * m)

-- ---- the parts' lengths

pub bank-length : (x : Bank) → length (in_bank x) ≡ bank_length
unfolding in_bank
bank-length x = refl

pub words-length : (n : ℕ) (w : List ℕ) → length (in_words n w) ≡ word_length * n
words-length n w = parts-length word_length (λ k. in_four (get_or w k 0)) (λ k. refl) n

pub string-length : (x : StringState) → length (in_string x) ≡ string_length
unfolding in_string
string-length x =
    length-append (in_words string_words (string_words_of x)) (in_flag x.lost ∷ [])
    ∙ ap (λ (m : ℕ). m + 1) (words-length string_words (string_words_of x))

pub map-length : (masks : List Masks) → length (in_map masks) ≡ map_length
map-length masks =
    parts-length masks_length (λ s. in_words manifold_count (masks_of masks s)) (λ s. words-length manifold_count (masks_of masks s)) string_count

pub strings-length : (strings : List StringState) → length (in_strings strings) ≡ string_length * string_count
strings-length strings =
    parts-length string_length (λ s. in_string (get_or strings s past_string)) (λ s. string-length (get_or strings s past_string)) string_count

-- ---- the words of two lists, one behind the other

pub words_append : (u w : List ℕ) (m n : ℕ) → length u ≡ m → in_words m u ++ in_words n w ≡ in_words (m + n) (u ++ w)
unfolding parts
words_append u w m zero e =
    append-nil (in_words m u)
    ∙ parts_same (λ k. in_four (get_or u k 0)) (λ k. in_four (get_or (u ++ w) k 0)) m
    (λ k b. ap in_four (sym (get_or-append u w 0 k (omega (arith, e)))))
    ∙ ap (λ (j : ℕ). in_words j (u ++ w)) (sym (add-zero m))
words_append u w m (suc n) e =
    sym (append_assoc (in_words m u) (in_words n w) (in_four (get_or w n 0)))
    ∙ ap₂ (λ (p q : List ℕ). p ++ q) (words_append u w m n e) (ap in_four (sym (get_d_past u w m n e)))
    ∙ ap (λ (j : ℕ). in_words j (u ++ w)) (sym (add-suc m n))

-- ---- the whole: n, masks, strings and banks put one behind the other into a slice of their length

module _ (d : List ℕ) (h : Hall) (y p s b : List ℕ) where
  pub hall-laid : length d ≡ hall_length → y ≡ in_four h.n → p ≡ in_map h.masks → s ≡ in_strings h.strings → b ≡ in_banks h.banks
      → put_mid banks_from (bank_length * module_count)
      (put_mid strings_from (string_length * string_count) (put_mid masks_from map_length (y ++ drop masks_from d) p) s) b
      ≡ in_hall h
  unfolding in_hall
  hall-laid l ey ep es eb =
      let ly : length y ≡ masks_from = ap length ey in
      let lp : length (y ++ p) ≡ strings_from =
      length-append y p ∙ ap₂ (λ (m k : ℕ). m + k) ly (ap length ep ∙ map-length h.masks) in
      let ls : length ((y ++ p) ++ s) ≡ banks_from =
      length-append (y ++ p) s ∙ ap₂ (λ (m k : ℕ). m + k) lp (ap length es ∙ strings-length h.strings) in
      ap (λ (t : List ℕ). put_mid banks_from (bank_length * module_count) (put_mid strings_from (string_length * string_count) t s) b)
      (put_next y d p masks_from map_length ly)
      ∙ ap (λ (t : List ℕ). put_mid banks_from (bank_length * module_count) t b)
      (put_next (y ++ p) d s strings_from (string_length * string_count) lp)
      ∙ put_next ((y ++ p) ++ s) d b banks_from (bank_length * module_count) ls
      ∙ ap (λ (t : List ℕ). (((y ++ p) ++ s) ++ b) ++ t) (drop_of_length-le d {i = hall_length} (omega arith))
      ∙ append-nil (((y ++ p) ++ s) ++ b)
      ∙ append_assoc (y ++ p) s b
      ∙ append_assoc y p (s ++ b)
      ∙ rw (ey, ep, es, eb) refl
