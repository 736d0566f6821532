-- The report written into an outbox, part by part. Assumes nothing.
use Rattle.std.proofs.Common.{◌≡◌, ℕ, ◌%◌, ◌≤◌, List, [], ◌∷◌, ◌++◌, length, get_or, take, drop, set, sym, refl, ap, ◌∙◌, ap₂, append_assoc, arith, length-append, take-append-drop, length-take-le, take-suc-set, drop-set-lt}
use denote.Param.Members.{Mut, Called}
use Rattle.std.specs.Array.{IsMapOf}
use borrow.Rule.Slice.PartMut.{put_mid}
use Rattle.cycle.specs.Size.{string_count, module_count}
use Rattle.cycle.specs.Answers.{number_of}
use Rattle.cycle.specs.Banks.{no_bank}
use Rattle.cycle.specs.declared.answer.Answer.{Answer}
use Rattle.cycle.specs.declared.banks.Bank.{Bank}
use Rattle.cycle.specs.declared.hall.Hall.{Hall}
use Rattle.feed.specs.Bytes.{in_two, parts}
use Rattle.feed.specs.Size.{strings_from, balance_at, lesser_from, differences_from, report_length}
use Rattle.feed.specs.Report.{head_of, string_bytes, strings_bytes, balance_of, word_shown, words_bytes, lesser_bytes, differences_bytes, banks_bytes, report_by}
use Rattle.feed.specs.Report.{reported_fail, reported_close, report_of, past_shown, report_shown}
use Rattle.feed.specs.Inside.Showing.{shown_of}
use Rattle.feed.specs.declared.report.StringShown.{StringShown}
use Rattle.feed.proofs.Records.Tables.{table_at, mapped_at}
use Rattle.feed.proofs.Reports.Parts.{parts_same}
use Rattle.feed.proofs.Reports.Written.{put_next, next-written}
use Rattle.feed.proofs.Reports.ReportLengths.{head-length, front_length, words-length}

-- the balance byte, x with it, behind it the lesser quantities, y after them, and the differences, z after these
pub banks-written : (d x y z : List ℕ) (b : ℕ) (banks : List Bank) → report_length ≤ length d → b ≡ balance_of module_count banks
    → x ≡ set d balance_at (b % 256)
    → y ≡ take lesser_from x ++ (lesser_bytes banks ++ drop differences_from x)
    → z ≡ take differences_from y ++ (differences_bytes banks ++ drop report_length y)
    → z ≡ take balance_at d ++ (banks_bytes banks ++ drop report_length d)
unfolding banks_bytes
banks-written d x y z b banks l e ex ey ez =
    let v = balance_of module_count banks % 256 in
    let p = take balance_at d ++ (v ∷ []) in
    let q = lesser_bytes banks in
    let r = differences_bytes banks in
    let rest = drop report_length d in
    let fx : x ≡ p ++ drop lesser_from d =
    ex
    ∙ ap (λ (w : ℕ). set d balance_at (w % 256)) e
    ∙ sym (take-append-drop lesser_from (set d balance_at v))
    ∙ ap₂ (λ (s t : List ℕ). s ++ t) (take-suc-set d balance_at v (omega arith)) (drop-set-lt lesser_from d balance_at v (omega arith)) in
    let lp : length p ≡ lesser_from =
    length-append (take balance_at d) (v ∷ []) ∙ omega (arith, length-take-le balance_at d (omega arith)) in
    let fy : y ≡ (p ++ q) ++ drop differences_from d = next-written d p q x y lesser_from differences_from lp (omega arith) fx ey in
    let ly : length (p ++ q) ≡ differences_from = length-append p q ∙ omega (arith, lp, words-length (λ b. b.lesser) banks) in
    next-written d (p ++ q) r y z differences_from report_length ly (omega arith) fy ez
    ∙ ap (λ (t : List ℕ). t ++ rest) (append_assoc p q r ∙ append_assoc (take balance_at d) (v ∷ []) (q ++ r))
    ∙ append_assoc (take balance_at d) (v ∷ q ++ r) rest

-- the whole: x after the head, y after the strings, z after the banks
pub report-written : (a : Answer) (k : ℕ) (fail close : ℕ → ℕ) (banks : List Bank) (n : ℕ) (d p x y z : List ℕ) → n ≡ number_of a
    → p ≡ head_of n k
    → x ≡ put_mid 0 strings_from d p
    → y ≡ take strings_from x ++ (strings_bytes fail close ++ drop balance_at x)
    → z ≡ take balance_at y ++ (banks_bytes banks ++ drop report_length y)
    → z ≡ report_by a k fail close banks ++ drop report_length d
report-written a k fail close banks n d p x y z en ep ex ey ez =
    let q = head_of (number_of a) k in
    let s = strings_bytes fail close in
    let b = banks_bytes banks in
    let fp : p ≡ q = ep ∙ ap (λ (j : ℕ). head_of j k) en in
    let fx : x ≡ q ++ drop strings_from d =
    ex ∙ put_next [] d p 0 strings_from refl ∙ ap (λ (t : List ℕ). t ++ drop strings_from d) fp in
    let lq : length q ≡ strings_from = head-length (number_of a) k in
    let fy : y ≡ (q ++ s) ++ drop balance_at d = next-written d q s x y strings_from balance_at lq (omega arith) fx ey in
    let ly : length (q ++ s) ≡ balance_at = front_length (number_of a) k fail close in
    next-written d (q ++ s) b y z balance_at report_length ly (omega arith) fy ez
    ∙ ap (λ (t : List ℕ). t ++ drop report_length d) (append_assoc q s b)

-- the report of what is shown of a hall is the hall's
pub shown-same : (a : Answer) (h : Hall) → report_shown a (shown_of h) ≡ report_of a h
unfolding report_of shown_of strings_bytes
shown-same a h =
    ap (λ (t : List ℕ). head_of (number_of a) h.n ++ (t ++ banks_bytes h.banks))
    (parts_same _ _ string_count
    (λ s l.
    ap (λ (x : StringShown). string_bytes x.fail x.close)
    (table_at (λ s. record { fail = reported_fail h s; close = reported_close h s }) past_shown string_count s l)))

-- a word of each bank, as an array that a map made of them
pub words-mapped : {F : Type 0} (g : Mut F (Bank × Unit {0}) ℕ) (word : Bank → ℕ)
    → ((x : Bank) (y : ℕ) (p q : F) → Called g p (x, tt) y q → y ≡ word x) → (f : F) (banks : List Bank) (words : List ℕ)
    → IsMapOf g f banks words module_count → parts module_count (λ m. in_two (get_or words m 0)) ≡ words_bytes word banks
unfolding words_bytes
words-mapped g word gives f banks words made =
    parts_same (λ m. in_two (get_or words m 0)) (word_shown word banks) module_count
    (λ m b. ap in_two (mapped_at g word gives f banks words module_count m no_bank 0 made b))
