-- A calm major record is settled by a call as the shortcut says: it is taken, only the number, the good copies and the banks change, and
-- its report is the one before with another number and other banks. Assumes nothing.
use Rattle.std.proofs.Common.{◌≡◌, ℕ, ◌+◌, ◌-◌, ◌*◌, ◌<◌, ◌≤◌, Bool, true, cond, not, ◌&&◌, eqb, ltb, List, length, get_or, sym, refl, ap, ◌∙◌, ap₂, inr, arith, ltb-true, eqb-true}
use Rattle.bits.specs.Bit.{any, every}
use Rattle.bits.proofs.Every.{every-at, every-same}
use Rattle.bits.proofs.Yes.{and_left, and_right, and_both}
use Rattle.cycle.specs.Size.{string_count, last_count}
use Rattle.cycle.specs.Hall.{no_requests, past_string, string_of, stepped}
use Rattle.cycle.specs.Records.{minor, major}
use Rattle.cycle.specs.Calm.{all_calm, mapped_words, follows, all_quiet, finds_none, quiet_major, kept_all, onward}
use Rattle.cycle.specs.declared.answer.Answer.TheVariants.{Taken}
use Rattle.cycle.specs.declared.hall.Hall.{Hall}
use Rattle.cycle.specs.declared.string.StringState.{StringState}
use Rattle.cycle.specs.declared.values.Requests.{Requests}
use Rattle.cycle.proofs.CalmMajors.{major-passes}
use Rattle.feed.specs.Size.{mark_byte, major_mark, major_length, wire_at, path_at, samples_from, sample_length, reserved_from}
use Rattle.feed.specs.Size.{requests_from, requests_length, drops_from, quantities_from}
use Rattle.feed.specs.Bytes.{two, four}
use Rattle.feed.specs.Format.{sum_of, sum_right, reserved_zero, quantities_right, good_major}
use Rattle.feed.specs.Good.{WholeRecord}
use Rattle.feed.specs.Values.{sample_at, minor_of, requests_at, quantities_of, major_of, values_of}
use Rattle.feed.specs.Inside.Calm.{leak_at, none_found_in, none_asked, all_still, major_passes}
use Rattle.feed.proofs.Records.ColdWords.{quiet_told}
use Rattle.feed.proofs.Records.GoodParts.{quantities-to}

-- ---- a record that asks for nothing

module _ (l : List ℕ) (none : none_asked l ≡ true) where
  zero-at : (p : ℕ) → requests_from ≤ p → p < quantities_from → get_or l p 0 ≡ 0
  unfolding none_asked
  zero-at p low high =
      let place : requests_from + (p - requests_from) ≡ p = omega arith in
      ap (λ (k : ℕ). get_or l k 0) (sym place)
      ∙ eqb-true (get_or l (requests_from + (p - requests_from)) 0) 0
      (every-at (quantities_from - requests_from) _ none (p - requests_from) (omega arith))

  no_word : (p : ℕ) → requests_from ≤ p → p + 3 < quantities_from → four l p ≡ 0
  no_word p low high =
      let a = zero-at p low (omega arith) in
      let b = zero-at (p + 1) (omega arith) (omega arith) in
      let c = zero-at (p + 2) (omega arith) (omega arith) in
      let d = zero-at (p + 3) (omega arith) high in
      omega arith

  pub none-requested : (s : ℕ) → s < string_count → requests_at l (requests_from + requests_length * s) (drops_from + s) ≡ no_requests
  none-requested s b =
      let inhibit = no_word (requests_from + requests_length * s) (omega arith) (omega arith) in
      let reenable = no_word (requests_from + requests_length * s + 4) (omega arith) (omega arith) in
      let dropped = zero-at (drops_from + s) (omega arith) (omega arith) in
      λ i. record { inhibit = inhibit i; reenable = reenable i; drop = dropped i }

-- string s finds nothing in steps 5 to 8 but what its temperatures say, where nothing is asked for
abbrev pub still_at : List ℕ → List ℕ → List StringState → ℕ → Bool
still_at l jets strings s =
    let string = get_or strings s past_string in
    finds_none (get_or jets s 0) (sample_at l (samples_from + sample_length * s)) no_requests string.on string.close

pub all-still-told : (l jets : List ℕ) (h : Hall) → jets ≡ mapped_words h.masks → none_asked l ≡ true
    → every string_count (still_at l jets h.strings) ≡ every string_count (none_found_in h l)
all-still-told l jets h e none =
    every-same string_count _ _
    (λ s b.
    ap₂ (λ (j : List ℕ) (q : Requests).
    finds_none (get_or j s 0) (sample_at l (samples_from + sample_length * s)) q (string_of h s).on (string_of h s).close) e
    (sym (none-requested l none s b)))

-- ---- what a record that passes is

module _ (h : Hall) (l : List ℕ) (p : major_passes h l ≡ true) where
  abbrev still : Bool
  still = all_still h l

  abbrev warm : Bool
  warm = not (any string_count (leak_at l (mapped_words h.masks)))

  marked : (get_or l 0 0 ≡ mark_byte) × (get_or l 1 0 ≡ major_mark)
  unfolding major_passes
  marked =
      let q = and_right (eqb (get_or l 0 0) mark_byte) _ p in
      (eqb-true (get_or l 0 0) mark_byte (and_left _ _ p), eqb-true (get_or l 1 0) major_mark (and_left _ _ q))

  rest : (follows h.n (two l wire_at) true && (none_asked l && (still && (warm && good_major l)))) ≡ true
  unfolding major_passes
  rest = and_right (eqb (get_or l 1 0) major_mark) _ (and_right (eqb (get_or l 0 0) mark_byte) _ p)

  next : follows h.n (two l wire_at) true ≡ true
  next = and_left (follows h.n (two l wire_at) true) _ rest

  found : (still && (warm && good_major l)) ≡ true
  found = and_right (none_asked l) _ (and_right (follows h.n (two l wire_at) true) _ rest)

  finds-none : all_quiet (minor_of l) h ≡ true
  finds-none = and_left (all_quiet (minor_of l) h) _ (and_left still _ found)

  no-path : eqb (get_or l path_at 0) 0 ≡ true
  unfolding all_quiet minor_of
  no-path = and_left (eqb (get_or l path_at 0) 0) _ finds-none

  quiet-steps : quiet_major (major_of l) h ≡ true
  quiet-steps =
      sym (quiet_told l (mapped_words h.masks) h refl)
      ∙ and_both (eqb (get_or l path_at 0) 0) _ no-path
      (and_both (every string_count (none_found_in h l)) warm (and_right (all_quiet (minor_of l) h) _ (and_left still _ found))
      (and_left warm _ (and_right still _ found)))

  good : good_major l ≡ true
  good = and_right warm _ (and_right still _ found)

  -- the number can go up
  pub major-below : h.n < last_count
  unfolding follows
  major-below = ltb-true h.n last_count (and_left (ltb h.n last_count) _ next)

  pub major-whole : length l ≡ major_length → WholeRecord l
  unfolding good_major reserved_zero sum_of
  major-whole long =
      let both = and_left (sum_right major_length l && reserved_zero l) (quantities_right l) good in
      let sum = and_left (sum_right major_length l) (reserved_zero l) both in
      let reserved = and_right (sum_right major_length l) (reserved_zero l) both in
      let small = and_right (sum_right major_length l && reserved_zero l) (quantities_right l) good in
      inr (record {
        long = long;
        mark = marked;
        sum = rw long (eqb-true (two l (major_length - 2)) _ sum);
        reserved = ltb-true (get_or l path_at 0) reserved_from reserved;
        quantities = quantities-to l small;
      })

  -- it is taken, and changes number, good copies and banks alone
  pub major-steps : all_calm string_count h.strings ≡ true
      → stepped (values_of l) h ≡ record { answer = Taken; hall = kept_all (quantities_of l) (onward h) }
  unfolding values_of minor_of major_of
  major-steps c =
      let kind : eqb (get_or l 1 0) major_mark ≡ true = ap (λ (b : ℕ). eqb b major_mark) marked.1 in
      ap (λ (b : Bool). stepped (cond b (major (major_of l)) (minor (minor_of l))) h) kind
      ∙ major-passes (major_of l) h c finds-none next quiet-steps
