-- What stands where in a report: the answer, n, each string's fail word and close byte, the balance byte, each module's lesser quantity and
-- its difference. Assumes nothing.
use Rattle.std.proofs.Common.{◌≡◌, ℕ, suc, ◌+◌, ◌*◌, ◌%◌, ◌^◌, ◌<◌, List, ◌++◌, get_or, sym, refl, ap, ◌∙◌, append_assoc, add_assoc, arith}
use lib.ListN.{get_or-append}
use Rattle.cycle.specs.Size.{string_count, module_count}
use Rattle.cycle.specs.Answers.{number_of}
use Rattle.cycle.specs.Banks.{no_bank}
use Rattle.cycle.specs.Hall.{string_of}
use Rattle.cycle.specs.declared.answer.Answer.{Answer}
use Rattle.cycle.specs.declared.banks.Bank.{Bank}
use Rattle.cycle.specs.declared.hall.Hall.{Hall}
use Rattle.feed.specs.Size.{word_length, quantity_length, answer_at, count_at, strings_from, string_part, balance_at}
use Rattle.feed.specs.Size.{lesser_from, lesser_length, differences_from, difference_length}
use Rattle.feed.specs.Bytes.{two, four, in_two}
use Rattle.feed.specs.Report.{head_of, string_bytes, strings_bytes, balance_of, word_shown, words_bytes, lesser_bytes, differences_bytes}
use Rattle.feed.specs.Report.{banks_bytes, reported_fail, reported_close, report_of}
use Rattle.feed.proofs.Records.NumbersInBytes.{two-in_two, four-in_four, two-stands, four-stands}
use Rattle.feed.proofs.Reports.Parts.{get_d_past, parts_at}
use Rattle.feed.proofs.Reports.ReportLengths.{head-length, string-length, strings-length, front_length, words-length}

pub answer_at_lem : (a : Answer) (h : Hall) → get_or (report_of a h) answer_at 0 ≡ number_of a
unfolding report_of head_of
answer_at_lem a h = refl

pub n-at : (a : Answer) (h : Hall) → h.n < 2 ^ 32 → four (report_of a h) count_at ≡ h.n
unfolding report_of head_of
n-at a h l = four-in_four h.n l

-- ---- the strings

-- byte i of string s's part
pub string-at : (a : Answer) (h : Hall) (s i : ℕ) → s < string_count → i < string_part
    → get_or (report_of a h) (strings_from + string_part * s + i) 0
    ≡ get_or (string_bytes (reported_fail h s) (reported_close h s)) i 0
unfolding report_of strings_bytes
string-at a h s i l j =
    let strings : List ℕ = strings_bytes (reported_fail h) (reported_close h) in
    ap (λ (n : ℕ). get_or (report_of a h) n 0) (add_assoc strings_from (string_part * s) i)
    ∙ get_d_past (head_of (number_of a) h.n) (strings ++ banks_bytes h.banks) strings_from (string_part * s + i)
    (head-length (number_of a) h.n)
    ∙ get_or-append strings (banks_bytes h.banks) 0 (string_part * s + i)
    (omega (arith, strings-length (reported_fail h) (reported_close h)))
    ∙ parts_at string_part (λ t. string_bytes (reported_fail h t) (reported_close h t))
    (λ t. string-length (reported_fail h t) (reported_close h t)) string_count s i l j

pub fail-at : (a : Answer) (h : Hall) (s : ℕ) → s < string_count → reported_fail h s < 2 ^ 32
    → four (report_of a h) (strings_from + string_part * s) ≡ reported_fail h s
unfolding string_bytes
fail-at a h s l b =
    four-stands (report_of a h) (string_bytes (reported_fail h s) (reported_close h s)) (strings_from + string_part * s)
    (λ i j. string-at a h s i l (omega arith))
    ∙ four-in_four (reported_fail h s) b

pub close_at_lem : (a : Answer) (h : Hall) (s : ℕ) → s < string_count
    → get_or (report_of a h) (strings_from + string_part * s + word_length) 0 ≡ (string_of h s).close % 256
unfolding string_bytes
close_at_lem a h s l = string-at a h s word_length l (omega arith)

-- ---- the banks

bank-in : (a : Answer) (h : Hall) (i : ℕ) → get_or (report_of a h) (balance_at + i) 0 ≡ get_or (banks_bytes h.banks) i 0
unfolding report_of
bank-in a h i =
    ap (λ (t : List ℕ). get_or t (balance_at + i) 0)
    (sym (append_assoc (head_of (number_of a) h.n) (strings_bytes (reported_fail h) (reported_close h)) (banks_bytes h.banks)))
    ∙ get_d_past (head_of (number_of a) h.n ++ strings_bytes (reported_fail h) (reported_close h)) (banks_bytes h.banks) balance_at i
    (front_length (number_of a) h.n (reported_fail h) (reported_close h))

pub balance-at : (a : Answer) (h : Hall) → get_or (report_of a h) balance_at 0 ≡ balance_of module_count h.banks % 256
unfolding banks_bytes
balance-at a h = bank-in a h 0

module _ (a : Answer) (h : Hall) where
  lesser-stand : (i : ℕ) → i < quantity_length * module_count → get_or (report_of a h) (lesser_from + i) 0 ≡ get_or (lesser_bytes h.banks) i 0
  unfolding banks_bytes
  lesser-stand i l =
      let e : lesser_from + i ≡ balance_at + suc i = omega arith in
      ap (λ (n : ℕ). get_or (report_of a h) n 0) e ∙ bank-in a h (suc i)
      ∙ get_or-append (lesser_bytes h.banks) (differences_bytes h.banks) 0 i
      (omega (arith, words-length (λ b. b.lesser) h.banks))

  differences-stand : (i : ℕ) → i < quantity_length * module_count
      → get_or (report_of a h) (differences_from + i) 0 ≡ get_or (differences_bytes h.banks) i 0
  unfolding banks_bytes
  differences-stand i l =
      let past = quantity_length * module_count in
      let e : differences_from + i ≡ balance_at + suc (past + i) = omega arith in
      ap (λ (n : ℕ). get_or (report_of a h) n 0) e ∙ bank-in a h (suc (past + i))
      ∙ get_d_past (lesser_bytes h.banks) (differences_bytes h.banks) past i (words-length (λ b. b.lesser) h.banks)

  module _ (m : ℕ) (l : m < module_count) where
    abbrev bank : Bank
    bank = get_or h.banks m no_bank

    -- where the words of all banks stand from a place on, that of one stands at its own
    word_at : (word : Bank → ℕ) (from : ℕ)
        → ((i : ℕ) → i < quantity_length * module_count → get_or (report_of a h) (from + i) 0 ≡ get_or (words_bytes word h.banks) i 0)
        → word bank < 65536 → two (report_of a h) (from + quantity_length * m) ≡ word bank
    unfolding words_bytes
    word_at word from stand b =
        two-stands (report_of a h) (in_two (word bank)) (from + quantity_length * m)
        (λ i j.
        ap (λ (n : ℕ). get_or (report_of a h) n 0) (add_assoc from (quantity_length * m) i)
        ∙ stand (quantity_length * m + i) (omega arith)
        ∙ parts_at quantity_length (word_shown word h.banks) (λ k. refl) module_count m i l j)
        ∙ two-in_two (word bank) b

    pub lesser-at : bank.lesser < 65536 → two (report_of a h) (lesser_from + lesser_length * m) ≡ bank.lesser
    lesser-at = word_at (λ b. b.lesser) lesser_from lesser-stand

    pub difference-at : bank.difference < 65536 → two (report_of a h) (differences_from + difference_length * m) ≡ bank.difference
    difference-at = word_at (λ b. b.difference) differences_from differences-stand
