-- Every byte of a report is a byte: below 256. Assumes nothing.
use Rattle.std.proofs.Common.{ℕ, zero, suc, ◌%◌, ◌<◌, List, [], ◌∷◌, ◌++◌, get_or, arith}
use Rattle.cycle.specs.Size.{string_count, module_count}
use Rattle.cycle.specs.Answers.{number_of}
use Rattle.cycle.specs.Banks.{no_bank}
use Rattle.cycle.specs.declared.answer.Answer.{Answer}
use Rattle.cycle.specs.declared.banks.Bank.{Bank}
use Rattle.cycle.specs.declared.hall.Hall.{Hall}
use Rattle.cycle.proofs.Answers.{number-byte}
use Rattle.feed.specs.Bytes.{in_two, in_four, parts}
use Rattle.feed.specs.Report.{head_of, string_bytes, strings_bytes, word_shown, words_bytes, lesser_bytes, differences_bytes}
use Rattle.feed.specs.Report.{banks_bytes, reported_fail, reported_close, report_of}

abbrev Bytes : List ℕ → Type 0
Bytes [] = Unit {0}
Bytes (b ∷ l) = (b < 256) × Bytes l

both : (l q : List ℕ) → Bytes l → Bytes q → Bytes (l ++ q)
both [] q x y = y
both (b ∷ l) q x y = (x.0, both l q x.1 y)

at : (l : List ℕ) → Bytes l → (k : ℕ) → get_or l k 0 < 256
at [] x k = omega arith
at (b ∷ l) x zero = x.0
at (b ∷ l) x (suc k) = at l x.1 k

two_bytes : (w : ℕ) → Bytes (in_two w)
two_bytes w = (omega arith, (omega arith, tt))

four_bytes : (w : ℕ) → Bytes (in_four w)
four_bytes w = (omega arith, (omega arith, (omega arith, (omega arith, tt))))

parts-bytes : (f : ℕ → List ℕ) → ((s : ℕ) → Bytes (f s)) → (n : ℕ) → Bytes (parts n f)
unfolding parts
parts-bytes f each zero = tt
parts-bytes f each (suc n) = both (parts n f) (f n) (parts-bytes f each n) (each n)

string_bytes_lem : (fail close : ℕ) → Bytes (string_bytes fail close)
unfolding string_bytes
string_bytes_lem fail close = both (in_four fail) (close % 256 ∷ []) (four_bytes fail) (omega arith, tt)

strings-bytes : (fail close : ℕ → ℕ) → Bytes (strings_bytes fail close)
unfolding strings_bytes
strings-bytes fail close =
    parts-bytes (λ s. string_bytes (fail s) (close s)) (λ s. string_bytes_lem (fail s) (close s)) string_count

words-bytes : (word : Bank → ℕ) (banks : List Bank) → Bytes (words_bytes word banks)
unfolding words_bytes
words-bytes word banks = parts-bytes (word_shown word banks) (λ m. two_bytes (word (get_or banks m no_bank))) module_count

banks-bytes : (banks : List Bank) → Bytes (banks_bytes banks)
unfolding banks_bytes
banks-bytes banks = (omega arith, both (lesser_bytes banks) (differences_bytes banks) (words-bytes _ banks) (words-bytes _ banks))

head_bytes_lem : (a : Answer) (n : ℕ) → Bytes (head_of (number_of a) n)
unfolding head_of
head_bytes_lem a n = (omega arith, (omega arith, (number-byte a, four_bytes n)))

report-all : (a : Answer) (h : Hall) → Bytes (report_of a h)
unfolding report_of
report-all a h =
    let strings : List ℕ = strings_bytes (reported_fail h) (reported_close h) in
    both (head_of (number_of a) h.n) (strings ++ banks_bytes h.banks) (head_bytes_lem a h.n)
    (both strings (banks_bytes h.banks) (strings-bytes (reported_fail h) (reported_close h)) (banks-bytes h.banks))

pub report-bytes : (a : Answer) (h : Hall) (k : ℕ) → get_or (report_of a h) k 0 < 256
report-bytes a h k = at (report_of a h) (report-all a h) k
