-- 01, "Which answer a record gets": the report; 02, order 10: "A report is 40 bytes". Assumes nothing.
use Rattle.std.specs.Prelude.{ℕ, zero, suc, ◌+◌, ◌%◌, Bool, cond, List, [], ◌∷◌, ◌++◌, length, drop, bit_and, nat_le, slice_index_or}
use Rattle.bits.specs.Bit.{with_bit}
use Rattle.cycle.specs.Size.{string_count, manifold_count, module_count}
use Rattle.cycle.specs.Answers.{is_taken, number_of}
use Rattle.cycle.specs.Map.{masks_of, mapped}
use Rattle.cycle.specs.Banks.{no_bank}
use Rattle.cycle.specs.Hall.{string_of}
use Rattle.cycle.specs.declared.answer.Answer.{Answer}
use Rattle.cycle.specs.declared.banks.Bank.{Bank}
use Rattle.cycle.specs.declared.hall.Hall.{Hall}
use Rattle.cycle.specs.declared.hall.Stepped.{Stepped}
use Rattle.feed.specs.Size.{mark_byte, report_length, oxidizer_from}
use Rattle.feed.specs.Bytes.{in_two, in_four, parts}
use Rattle.feed.specs.declared.report.Shown.{Shown}
use Rattle.feed.specs.declared.report.StringShown.{StringShown}

-- "52 52; answer; n after it (4)"
unfoldable pub head_of : ℕ → ℕ → List ℕ
head_of answer n = mark_byte ∷ mark_byte ∷ answer ∷ in_four n

-- "the fail word (4) and close byte (1)"
unfoldable pub string_bytes : ℕ → ℕ → List ℕ
string_bytes fail close = in_four fail ++ (close % 256 ∷ [])

-- "for each string", by the fail word and close bits of each
unfoldable pub strings_bytes : (ℕ → ℕ) → (ℕ → ℕ) → List ℕ
strings_bytes fail close = parts string_count (λ s. string_bytes (fail s) (close s))

-- "Balance: bit m set if module m is out of balance, bit 4+m if its oxidizer is the lesser."
unfoldable pub balance_of : ℕ → List Bank → ℕ
balance_of zero banks = 0
balance_of (suc m) banks =
    with_bit (with_bit (balance_of m banks) m (slice_index_or banks m no_bank).unbalanced) (oxidizer_from + m) (slice_index_or banks m no_bank).oxidizer

-- a word of each module's bank
abbrev pub word_shown : (Bank → ℕ) → List Bank → ℕ → List ℕ
word_shown word banks m = in_two (word (slice_index_or banks m no_bank))

unfoldable pub words_bytes : (Bank → ℕ) → List Bank → List ℕ
words_bytes word banks = parts module_count (word_shown word banks)

-- "three lesser quantities (2 each)"
abbrev pub lesser_bytes : List Bank → List ℕ
lesser_bytes banks = words_bytes (λ b. b.lesser) banks

-- 02, order 10: "the report carries three of them, 2 bytes each in two's complement"
abbrev pub differences_bytes : List Bank → List ℕ
differences_bytes banks = words_bytes (λ b. b.difference) banks

-- "balance byte; three lesser quantities (2 each)"; 02, order 10: the differences "after the lesser quantities"
unfoldable pub banks_bytes : List Bank → List ℕ
banks_bytes banks = balance_of module_count banks % 256 ∷ lesser_bytes banks ++ differences_bytes banks

-- the whole, by what it shows: n, each string's fail word and close bits, and the banks
abbrev pub report_by : Answer → ℕ → (ℕ → ℕ) → (ℕ → ℕ) → List Bank → List ℕ
report_by a n fail close banks = head_of (number_of a) n ++ (strings_bytes fail close ++ banks_bytes banks)

-- of a hall; bits of jets in no mask "are 0 in reports"
abbrev pub reported_fail : Hall → ℕ → ℕ
reported_fail h s = bit_and (mapped manifold_count (masks_of h.masks s)) (string_of h s).standing.fail

abbrev pub reported_close : Hall → ℕ → ℕ
reported_close h s = (string_of h s).close

unfoldable pub report_of : Answer → Hall → List ℕ
report_of a h = report_by a h.n (reported_fail h) (reported_close h) h.banks

-- what stands past the last string
abbrev pub past_shown : StringShown
past_shown = record { fail = 0; close = 0 }

abbrev pub fail_shown : List StringShown → ℕ → ℕ
fail_shown strings s = (slice_index_or strings s past_shown).fail

abbrev pub close_shown : List StringShown → ℕ → ℕ
close_shown strings s = (slice_index_or strings s past_shown).close

-- of values that are shown, of whatever engine
abbrev pub report_shown : Answer → Shown → List ℕ
report_shown a x = report_by a x.n (fail_shown x.strings) (close_shown x.strings) x.banks

-- of what a record led to: its report, where it is taken
abbrev pub report_taken : Stepped Hall → List (List ℕ)
report_taken x = cond (is_taken x.answer) (report_of x.answer x.hall ∷ []) []

-- the report put into an outbox: 02, order 10: bytes after the 40th keep their values, and so do all where it does not fit
abbrev pub fits_in : List ℕ → Bool
fits_in out = nat_le report_length (length out)

abbrev pub into_outbox : List ℕ → List ℕ → List ℕ
into_outbox report out = cond (fits_in out) (report ++ drop report_length out) out

abbrev pub report_over : Answer → Hall → List ℕ → List ℕ
report_over a h out = into_outbox (report_of a h) out
