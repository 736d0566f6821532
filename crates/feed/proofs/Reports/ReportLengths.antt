-- The lengths of a report and of its parts. Assumes nothing.
use Rattle.std.proofs.Common.{◌≡◌, ℕ, suc, ◌+◌, ◌*◌, List, ◌++◌, length, refl, ap, ◌∙◌, ap₂, arith, length-append}
use Rattle.cycle.specs.Size.{string_count, module_count}
use Rattle.cycle.specs.Answers.{number_of}
use Rattle.cycle.specs.declared.answer.Answer.{Answer}
use Rattle.cycle.specs.declared.banks.Bank.{Bank}
use Rattle.cycle.specs.declared.hall.Hall.{Hall}
use Rattle.feed.specs.Size.{quantity_length, strings_from, string_part, balance_at, lesser_length, difference_length, report_length}
use Rattle.feed.specs.Report.{head_of, string_bytes, strings_bytes, word_shown, words_bytes, lesser_bytes, differences_bytes, banks_bytes}
use Rattle.feed.specs.Report.{report_by}
use Rattle.feed.specs.Report.{reported_fail, reported_close, report_of}
use Rattle.feed.proofs.Reports.Parts.{parts-length}

pub head-length : (answer n : ℕ) → length (head_of answer n) ≡ strings_from
unfolding head_of
head-length answer n = refl

pub string-length : (fail close : ℕ) → length (string_bytes fail close) ≡ string_part
unfolding string_bytes
string-length fail close = refl

pub strings-length : (fail close : ℕ → ℕ) → length (strings_bytes fail close) ≡ string_part * string_count
unfolding strings_bytes
strings-length fail close =
    parts-length string_part (λ s. string_bytes (fail s) (close s)) (λ s. string-length (fail s) (close s)) string_count

pub words-length : (word : Bank → ℕ) (banks : List Bank) → length (words_bytes word banks) ≡ quantity_length * module_count
unfolding words_bytes
words-length word banks = parts-length quantity_length (word_shown word banks) (λ m. refl) module_count

pub banks-length : (banks : List Bank)
    → length (banks_bytes banks) ≡ suc (lesser_length * module_count + difference_length * module_count)
unfolding banks_bytes
banks-length banks =
    ap suc
    (length-append (lesser_bytes banks) (differences_bytes banks)
    ∙ ap₂ (λ (l d : ℕ). l + d) (words-length _ banks) (words-length _ banks))

-- what stands before the balance byte
pub front_length : (answer n : ℕ) (fail close : ℕ → ℕ) → length (head_of answer n ++ strings_bytes fail close) ≡ balance_at
front_length answer n fail close =
    length-append (head_of answer n) (strings_bytes fail close)
    ∙ omega (arith, head-length answer n, strings-length fail close)

pub by_length : (a : Answer) (n : ℕ) (fail close : ℕ → ℕ) (banks : List Bank) → length (report_by a n fail close banks) ≡ report_length
by_length a n fail close banks =
    length-append (head_of (number_of a) n) (strings_bytes fail close ++ banks_bytes banks)
    ∙ omega (
      arith,
      length-append (strings_bytes fail close) (banks_bytes banks),
      head-length (number_of a) n,
      strings-length fail close,
      banks-length banks,
    )

pub report-length : (a : Answer) (h : Hall) → length (report_of a h) ≡ report_length
unfolding report_of
report-length a h = by_length a h.n (reported_fail h) (reported_close h) h.banks
