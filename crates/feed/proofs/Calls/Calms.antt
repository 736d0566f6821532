-- A calm minor record is settled by a call as the shortcut says: it is taken, only the number changes, and its report is the one before with
-- another number. Assumes nothing.
use Rattle.std.proofs.Common.{◌≡◌, ℕ, ◌+◌, ◌-◌, ◌*◌, ◌%◌, ◌^◌, ◌<◌, ◌≤◌, Bool, true, false, cond, ◌&&◌, eqb, ltb, List, length, get_or, take, drop, replicate, sym, refl, ap, ◌∙◌, inl, arith, ltb-false, ltb-true, le-ltb, lt-ltb, eqb-true}
use native.Mathlib.Nat.{add-sub_cancel_left}
use Rattle.bits.specs.Bit.{word_bits, every}
use Rattle.bits.proofs.Every.{every-same}
use Rattle.bits.proofs.Yes.{and_left, and_right, and-true, not-both}
use Rattle.cycle.specs.Size.{string_count, manifold_count, last_count, wire_span}
use Rattle.cycle.specs.Numbers.{is_major}
use Rattle.cycle.specs.Map.{masks_of, mapped}
use Rattle.cycle.specs.Hall.{no_sample, past_string, string_of, stepped}
use Rattle.cycle.specs.Records.{minor, major}
use Rattle.cycle.specs.Calm.{quiet, all_calm, mapped_words, follows, all_quiet, onward}
use Rattle.cycle.specs.declared.answer.Answer.TheVariants.{Taken}
use Rattle.cycle.specs.declared.hall.Hall.{Hall}
use Rattle.cycle.specs.declared.map.Masks.{Masks}
use Rattle.cycle.specs.declared.values.Sample.{Sample}
use Rattle.cycle.specs.declared.string.StringState.{StringState}
use Rattle.cycle.proofs.Each.{each-length}
use Rattle.cycle.proofs.CalmHalls.{mapped_at, minor-passes}
use Rattle.feed.specs.Size.{mark_byte, minor_mark, major_mark, minor_length, wire_at, path_at, samples_from, sample_length, reserved_from}
use Rattle.feed.specs.Bytes.{two}
use Rattle.feed.specs.Format.{sum_of, sum_right, reserved_zero, good_minor}
use Rattle.feed.specs.Good.{WholeRecord}
use Rattle.feed.specs.Values.{sample_at, samples_of, minor_of, major_of, values_of}
use Rattle.feed.specs.Inside.LowFirst.{turned}
use Rattle.feed.specs.Inside.Calm.{Words, turned_sample, turned_words, passes, tested_at}
use Rattle.feed.proofs.Records.Tables.{table_at}
use Rattle.feed.proofs.Records.TurnedWords.{quiet-turned, turned-at}

-- ---- the samples of a record

-- string s finds nothing, by the bytes as they stand
abbrev pub quiet_at : List ℕ → List ℕ → List StringState → ℕ → Bool
quiet_at l jets strings s =
    quiet (get_or jets s 0) (turned_sample (sample_at l (samples_from + sample_length * s))) (get_or strings s past_string)

-- its words are words
abbrev pub WordsAt : List ℕ → ℕ → Type 0
WordsAt l s =
    ((sample_at l (samples_from + sample_length * s)).commanded < 2 ^ word_bits)
    × ((sample_at l (samples_from + sample_length * s)).pressure < 2 ^ word_bits)

mapped-long : (masks : List Masks) → string_count ≤ length (mapped_words masks)
unfolding mapped_words
mapped-long masks =
    rw (each-length (λ s x. mapped manifold_count (masks_of masks s)) 0 (replicate string_count 0) string_count) (omega arith)

pub all-quiet-told : (l jets : List ℕ) (h : Hall) → jets ≡ turned_words (mapped_words h.masks) → Words (mapped_words h.masks)
    → ((s : ℕ) → s < string_count → WordsAt l s)
    → (eqb (get_or l path_at 0) 0 && every string_count (quiet_at l jets h.strings)) ≡ all_quiet (minor_of l) h
unfolding all_quiet minor_of samples_of
all-quiet-told l jets h e words fit =
    ap (λ (b : Bool). eqb (get_or l path_at 0) 0 && b)
    (every-same string_count _ _
    (λ s b.
    let x : Sample = sample_at l (samples_from + sample_length * s) in
    let jet : get_or jets s 0 ≡ turned (get_or (mapped_words h.masks) s 0) =
    ap (λ (j : List ℕ). get_or j s 0) e ∙ turned-at (mapped_words h.masks) s b (mapped-long h.masks) in
    ap (λ (j : ℕ). quiet j (turned_sample x) (string_of h s)) jet
    ∙ quiet-turned (get_or (mapped_words h.masks) s 0) x (string_of h s) (words s b) (fit s b).0 (fit s b).1
    ∙ ap (λ (j : ℕ). quiet j x (string_of h s)) (mapped_at h.masks s b)
    ∙ ap (λ (y : Sample). quiet (mapped manifold_count (masks_of h.masks s)) y (string_of h s))
    (sym (table_at (λ k. sample_at l (samples_from + sample_length * k)) no_sample string_count s b))))

-- ---- the tests of a record

and-joined : (a b c : Bool) → (a && (b && c)) ≡ ((a && b) && c)
and-joined true b c = refl
and-joined false b c = refl

-- by both bytes of its mark at once
pub passes-by-mark : (h : Hall) (l : List ℕ)
    → passes h l
    ≡ ((eqb (get_or l 0 0) mark_byte && eqb (get_or l 1 0) minor_mark)
    && (follows h.n (two l wire_at) false && (all_quiet (minor_of l) h && good_minor l)))
unfolding passes
passes-by-mark h l = and-joined (eqb (get_or l 0 0) mark_byte) (eqb (get_or l 1 0) minor_mark) _

-- by its wire cycle alone, where the next cycle is a minor one
pub follows_next : (n wire : ℕ) → n < last_count → is_major (n + 1) ≡ false → follows n wire false ≡ eqb wire ((n + 1) % wire_span)
unfolding follows
follows_next n wire l k = rw (lt-ltb n last_count l, k) (and-true (eqb wire ((n + 1) % wire_span)))

-- ---- what a record that passes is

module _ (h : Hall) (l : List ℕ) (p : passes h l ≡ true) where
  marked : (get_or l 0 0 ≡ mark_byte) × (get_or l 1 0 ≡ minor_mark)
  unfolding passes
  marked =
      let q = and_right (eqb (get_or l 0 0) mark_byte) _ p in
      (eqb-true (get_or l 0 0) mark_byte (and_left _ _ p), eqb-true (get_or l 1 0) minor_mark (and_left _ _ q))

  rest : (follows h.n (two l wire_at) false && (all_quiet (minor_of l) h && good_minor l)) ≡ true
  unfolding passes
  rest = and_right (eqb (get_or l 1 0) minor_mark) _ (and_right (eqb (get_or l 0 0) mark_byte) _ p)

  next : follows h.n (two l wire_at) false ≡ true
  next = and_left (follows h.n (two l wire_at) false) _ rest

  finds-none : all_quiet (minor_of l) h ≡ true
  finds-none = and_left (all_quiet (minor_of l) h) _ (and_right (follows h.n (two l wire_at) false) _ rest)

  good : good_minor l ≡ true
  good = and_right (all_quiet (minor_of l) h) _ (and_right (follows h.n (two l wire_at) false) _ rest)

  pub passes-whole : length l ≡ minor_length → WholeRecord l
  unfolding good_minor reserved_zero sum_of
  passes-whole long =
      let sum = and_left (sum_right minor_length l) _ good in
      let reserved = and_right (sum_right minor_length l) _ good in
      inl (record {
        long = long;
        mark = marked;
        sum = rw long (eqb-true (two l (minor_length - 2)) _ sum);
        reserved = ltb-true (get_or l path_at 0) reserved_from reserved;
      })

  -- it is taken, and changes the number alone
  pub passes-steps : all_calm string_count h.strings ≡ true → stepped (values_of l) h ≡ record { answer = Taken; hall = onward h }
  unfolding values_of minor_of
  passes-steps c =
      let kind : eqb (get_or l 1 0) major_mark ≡ false = ap (λ (b : ℕ). eqb b major_mark) marked.1 in
      ap (λ (b : Bool). stepped (cond b (major (major_of l)) (minor (minor_of l))) h) kind ∙ minor-passes (minor_of l) h c finds-none next

-- ---- bytes in the piece that pass a test

module _ (test : List ℕ → Bool) (size from : ℕ) (piece : List ℕ) where
  pub tested-short : length piece - from < size → tested_at test size from piece ≡ false
  tested-short l = rw (lt-ltb (length piece - from) size l)

  -- by the part that is looked at
  pub tested-part : size ≤ length piece - from → (b : Bool) → b ≡ test (take (from + size - from) (drop from piece))
      → tested_at test size from piece ≡ b
  tested-part l b e =
      rw (le-ltb (length piece - from) size l)
      (ap (λ (n : ℕ). test (take n (drop from piece))) (sym (add-sub_cancel_left from size)) ∙ sym e)

  -- the piece has that many bytes, and they pass
  pub tested-long : tested_at test size from piece ≡ true → (size ≤ length piece - from) × (test (take size (drop from piece)) ≡ true)
  tested-long e = by (ltb (length piece - from) size) refl e
    where
      by : (t : Bool) → ltb (length piece - from) size ≡ t → cond t false (test (take size (drop from piece))) ≡ true
          → (size ≤ length piece - from) × (test (take size (drop from piece)) ≡ true)
      by true q z = not-both false z refl
      by false q z = (ltb-false (length piece - from) size q, z)
