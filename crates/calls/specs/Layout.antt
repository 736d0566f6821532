-- A whole hall in bytes, the fields in the order of the structs that declare them and each at its full width. Assumes nothing.
use Rattle.std.specs.Prelude.{◌≡◌, Bool, cond, not, List, [], ◌∷◌, ◌++◌, ℕ, ◌+◌, ◌*◌, ◌^◌, ◌<◌, eqb, length, get_or}
use Rattle.cycle.specs.Size.{string_count, manifold_count, module_count}
use Rattle.cycle.specs.Each.{table}
use Rattle.cycle.specs.Map.{masks_of}
use Rattle.cycle.specs.Banks.{no_bank}
use Rattle.cycle.specs.Hall.{past_string}
use Rattle.cycle.specs.declared.banks.Bank.{Bank}
use Rattle.cycle.specs.declared.hall.Hall.{Hall}
use Rattle.cycle.specs.declared.map.Masks.{Masks}
use Rattle.cycle.specs.declared.string.Standing.{Standing}
use Rattle.cycle.specs.declared.string.StringState.{StringState}
use Rattle.feed.specs.Size.{word_length, quantity_length, masks_length, map_length}
use Rattle.feed.specs.Bytes.{two, four, in_two, in_four, parts}

-- ---- lengths and places

-- a standing: fail, valves, and a saved set for each manifold
abbrev pub standing_words : ℕ
standing_words = 2 + manifold_count

-- a string's words: standing, good copy, three off slots, on slots and recheck, two overrides, close
abbrev pub off_from : ℕ
off_from = 2 * standing_words

abbrev pub on_from : ℕ
on_from = off_from + 3

abbrev pub over_from : ℕ
over_from = on_from + 3

abbrev pub close_at : ℕ
close_at = over_from + 2

abbrev pub string_words : ℕ
string_words = close_at + 1

abbrev pub standing_length : ℕ
standing_length = word_length * standing_words

abbrev pub words_length : ℕ
words_length = word_length * string_words

-- behind a string's words the flag of its path fault; a bank has two flags, a quantity and a difference
abbrev pub string_length : ℕ
string_length = words_length + 1

abbrev pub lesser_at : ℕ
lesser_at = 2

abbrev pub difference_at : ℕ
difference_at = lesser_at + quantity_length

abbrev pub bank_length : ℕ
bank_length = difference_at + quantity_length

abbrev pub masks_from : ℕ
masks_from = word_length

abbrev pub strings_from : ℕ
strings_from = masks_from + map_length

abbrev pub banks_from : ℕ
banks_from = strings_from + string_length * string_count

abbrev pub hall_length : ℕ
hall_length = banks_from + bank_length * module_count

-- ---- read: the part that begins at place i

-- a byte that is not 0 says yes
abbrev pub flag_in : List ℕ → ℕ → Bool
flag_in l i = not (eqb (get_or l i 0) 0)

-- the k-th word
abbrev pub word_in : List ℕ → ℕ → ℕ → ℕ
word_in l i k = four l (i + word_length * k)

-- the words from the k-th on, one for each manifold
abbrev pub per_manifold : List ℕ → ℕ → ℕ → List ℕ
per_manifold l i k = table manifold_count (λ m. word_in l i (k + m))

-- a standing from the k-th word on
abbrev pub standing_in : List ℕ → ℕ → ℕ → Standing
standing_in l i k = record { fail = word_in l i k; valves = word_in l i (k + 1); saved = per_manifold l i (k + 2) }

abbrev pub string_in : List ℕ → ℕ → StringState
string_in l i = record {
  standing = standing_in l i 0;
  good = standing_in l i standing_words;
  off = record { newest = word_in l i off_from; older = word_in l i (off_from + 1); oldest = word_in l i (off_from + 2) };
  on = record { newest = word_in l i on_from; older = word_in l i (on_from + 1); recheck = word_in l i (on_from + 2) };
  over = record { inhibit = word_in l i over_from; reenable = word_in l i (over_from + 1) };
  close = word_in l i close_at;
  lost = flag_in l (i + words_length);
}

abbrev pub masks_in : List ℕ → ℕ → Masks
masks_in l i = record { words = per_manifold l i 0 }

abbrev pub bank_in : List ℕ → ℕ → Bank
bank_in l i = record {
  unbalanced = flag_in l i;
  oxidizer = flag_in l (i + 1);
  lesser = two l (i + lesser_at);
  difference = two l (i + difference_at);
}

unfoldable pub hall_in : List ℕ → Hall
hall_in l = record {
  n = four l 0;
  masks = table string_count (λ s. masks_in l (masks_from + masks_length * s));
  strings = table string_count (λ s. string_in l (strings_from + string_length * s));
  banks = table module_count (λ m. bank_in l (banks_from + bank_length * m));
}

-- ---- written

-- yes is 1, no is 0
abbrev pub in_flag : Bool → ℕ
in_flag b = cond b 1 0

-- the first n words of a list
abbrev pub in_words : ℕ → List ℕ → List ℕ
in_words n words = parts n (λ k. in_four (get_or words k 0))

abbrev pub words_of : Standing → List ℕ
words_of x = x.fail ∷ x.valves ∷ x.saved

-- behind the standing and the good copy
abbrev pub other_words_of : StringState → List ℕ
other_words_of x =
    x.off.newest ∷ x.off.older ∷ x.off.oldest ∷ x.on.newest ∷ x.on.older ∷ x.on.recheck ∷ x.over.inhibit ∷ x.over.reenable
    ∷ x.close ∷ []

unfoldable pub string_words_of : StringState → List ℕ
string_words_of x = words_of x.standing ++ (words_of x.good ++ other_words_of x)

unfoldable pub in_string : StringState → List ℕ
in_string x = in_words string_words (string_words_of x) ++ (in_flag x.lost ∷ [])

unfoldable pub in_bank : Bank → List ℕ
in_bank x = in_flag x.unbalanced ∷ in_flag x.oxidizer ∷ in_two x.lesser ++ in_two x.difference

-- the masks of all strings, the strings and the banks
abbrev pub in_map : List Masks → List ℕ
in_map masks = parts string_count (λ s. in_words manifold_count (masks_of masks s))

abbrev pub in_strings : List StringState → List ℕ
in_strings strings = parts string_count (λ s. in_string (get_or strings s past_string))

abbrev pub in_banks : List Bank → List ℕ
in_banks banks = parts module_count (λ m. in_bank (get_or banks m no_bank))

unfoldable pub in_hall : Hall → List ℕ
in_hall h = in_four h.n ++ (in_map h.masks ++ (in_strings h.strings ++ in_banks h.banks))

-- ---- what the fields of a declared hall are: lists as long as the arrays, numbers that fit their widths

pub record FitString (x : StringState) : Type 0 where
  pub saved : length x.standing.saved ≡ manifold_count
  pub kept : length x.good.saved ≡ manifold_count
  pub words : (k : ℕ) → get_or (string_words_of x) k 0 < 2 ^ 32

pub record FitHall (h : Hall) : Type 0 where
  pub number : h.n < 2 ^ 32
  pub map : length h.masks ≡ string_count
  pub masks : (s : ℕ) → s < string_count → length (masks_of h.masks s) ≡ manifold_count
  pub words : (s k : ℕ) → get_or (masks_of h.masks s) k 0 < 2 ^ 32
  pub strings : length h.strings ≡ string_count
  pub string : (s : ℕ) → s < string_count → FitString (get_or h.strings s past_string)
  pub banks : length h.banks ≡ module_count
  pub lesser : (m : ℕ) → (get_or h.banks m no_bank).lesser < 2 ^ 16
  pub difference : (m : ℕ) → (get_or h.banks m no_bank).difference < 2 ^ 16
