-- The values that are read from a whole record fit, pass the writer's tests, and are written in that record's bytes. Assumes nothing.
use mathlib.Core.Path.{◌≡◌, refl, sym, ap, ◌∙◌}
use mathlib.Core.Bool.{true}
use mathlib.Core.List.{List}
use mathlib.Core.Logic.{inl, inr}
use Prim.Native.Nat.{ℕ, ◌+◌, ◌-◌, ◌*◌, ◌^◌, ◌≤◌, ◌<◌}
use native.Mathlib.Nat.{zero-add}
use native.Mathlib.Omega.{arith}
use borrow.Author.Tests.{lt-ltb}
use lib.Dec.{eqb}
use lib.ListN.{length, get_or, take}
use lib.Seq.{take_all}
use Rattle.bits.proofs.Every.{every-at, every-from}
use Rattle.cycle.specs.Size.{string_count, module_count}
use Rattle.cycle.specs.Banks.{no_quantities}
use Rattle.cycle.specs.Hall.{no_sample, no_temperatures, no_requests}
use Rattle.cycle.specs.Records.{minor, major}
use Rattle.cycle.specs.declared.values.Requests.{Requests}
use Rattle.cycle.specs.declared.values.Quantities.{Quantities}
use Rattle.feed.specs.Size.{mark_byte, minor_mark, major_mark, wire_at, wire_length, path_at, samples_from, word_length, valves_in}
use Rattle.feed.specs.Size.{temperatures_from, temperature_count, temperature_length, temperatures_length, requests_from, requests_length}
use Rattle.feed.specs.Size.{quantities_from, quantities_length, quantity_length, sample_length, minor_summed, major_summed, sum_length}
use Rattle.feed.specs.Size.{reserved_from, drops_from}
use Rattle.feed.specs.Bytes.{two, four, in_two}
use Rattle.feed.specs.Format.{sum_of}
use Rattle.feed.specs.Format as format
use Rattle.feed.specs.Good.{ReservedZero, SumRight, QuantitiesRight, MinorRecord, MajorRecord, WholeRecord}
use Rattle.feed.specs.Values.{sample_at, samples_of, minor_of, words_at, temperatures_at, temperatures_of, requests_at, requests_of}
use Rattle.feed.specs.Values.{quantities_at, quantities_of, major_of, values_of}
use Rattle.feed.proofs.Records.GoodParts.{quantities-from}
use Rattle.feed.proofs.Records.Lengths.{cond-by}
use Rattle.feed.proofs.Records.NumbersInBytes.{in_two-two, in_four-four}
use Rattle.writer.specs.RecordBytes.{head_bytes, sample_bytes, samples_bytes, common_bytes, words_bytes, temperatures_bytes}
use Rattle.writer.specs.RecordBytes.{request_bytes, requests_bytes, drop_bytes, drops_bytes, quantity_bytes, quantities_bytes}
use Rattle.writer.specs.RecordBytes.{before_sum, summed, bytes_of, length_by}
use Rattle.writer.specs.Write.{reserved_zero, no_reserved, two_right, module_right, quantities_right}
use Rattle.writer.specs.Write.{all_right}
use Rattle.writer.specs.Fit.{FitSample, FitMinor, FitTemperatures, FitRequests, FitQuantities, FitMajor, FitRecord}
use Rattle.feed.proofs.Records.Tables.{table-length}
use Rattle.writer.proofs.Listed.{table-holds}
use Rattle.writer.proofs.Slices.{slice_at, one-slice, joined, items-joined, table-joined}

-- ---- which kind is read

minor-read : (l : List ℕ) → MinorRecord l → values_of l ≡ minor (minor_of l)
unfolding values_of
minor-read l m = rw m.mark.1 refl

major-read : (l : List ℕ) → MajorRecord l → values_of l ≡ major (major_of l)
unfolding values_of
major-read l m = rw m.mark.1 refl

-- ---- the tests

module _ (l : List ℕ) where
  reserved-read : ReservedZero l → reserved_zero (minor_of l) ≡ true
  unfolding reserved_zero minor_of
  reserved-read z = lt-ltb _ reserved_from z

  quantities-read : QuantitiesRight l → quantities_right (quantities_of l) ≡ true
  unfolding quantities_right quantities_of two_right format.quantities_right
  quantities-read q =
      every-from module_count (module_right (quantities_of l))
      (table-holds _ (λ (x : Quantities). two_right x ≡ true) no_quantities module_count
      (every-at module_count (λ m. format.two_right l (quantities_from + quantities_length * m)) (quantities-from l q)))

  pub values-right : WholeRecord l
      → (no_reserved (values_of l) ≡ true) × (all_right (values_of l) ≡ true) × (length_by (values_of l) ≡ length l)
  unfolding major_of
  values-right (inl m) = rw (minor-read l m) (reserved-read m.reserved, refl, sym m.long)
  values-right (inr m) =
      rw (major-read l m) (
        reserved-read m.reserved,
        quantities-read m.quantities,
        sym m.long,
      )

module _ (l : List ℕ) (bytes : (i : ℕ) → get_or l i 0 < 256) where
  -- ---- the widths

  two_fits : (i : ℕ) → two l i < 2 ^ 16
  two_fits i = omega (arith, bytes i, bytes (i + 1))

  four-fits : (i : ℕ) → four l i < 2 ^ 32
  four-fits i = omega (arith, bytes i, bytes (i + 1), bytes (i + 2), bytes (i + 3))

  sample-fits : (i : ℕ) → FitSample (sample_at l i)
  sample-fits i = record {
    commanded = four-fits i;
    pressure = four-fits (i + word_length);
    driver = four-fits (i + 2 * word_length);
    valves = bytes (i + valves_in);
  }

  minor-fits : FitMinor (minor_of l)
  unfolding minor_of samples_of
  minor-fits = record {
    wire = two_fits wire_at;
    path = bytes path_at;
    strings = table-length _ string_count;
    sample = table-holds _ FitSample no_sample string_count (λ s b. sample-fits _);
  }

  temperatures-fit : (i : ℕ) → FitTemperatures (temperatures_at l i)
  unfolding words_at
  temperatures-fit i = record {
    many = table-length _ temperature_count;
    word = table-holds _ (λ (w : ℕ). w < 2 ^ 16) 0 temperature_count (λ k b. two_fits _);
  }

  requests-fit : (i k : ℕ) → FitRequests (requests_at l i k)
  requests-fit i k = record { inhibit = four-fits i; reenable = four-fits (i + word_length); drop = bytes k }

  quantities-fit : (i : ℕ) → FitQuantities (quantities_at l i)
  quantities-fit i = record { fuel = two_fits i; oxidizer = two_fits (i + quantity_length) }

  major-fits : FitMajor (major_of l)
  unfolding major_of temperatures_of requests_of quantities_of
  major-fits = record {
    minor = minor-fits;
    heated = table-length _ string_count;
    temperatures = table-holds _ FitTemperatures no_temperatures string_count (λ s b. temperatures-fit _);
    asked = table-length _ string_count;
    requests = table-holds _ FitRequests no_requests string_count (λ s b. requests-fit _ _);
    modules = table-length _ module_count;
    quantities = table-holds _ FitQuantities no_quantities module_count (λ m b. quantities-fit _);
  }

  pub values-fit : FitRecord (values_of l)
  unfolding values_of
  values-fit = cond-by FitRecord (eqb (get_or l 1 0) major_mark) (λ t. major-fits) (λ t. minor-fits)

  -- ---- each part written as the slice that it was read from

  sample-back : (i : ℕ) → i + sample_length ≤ length l → sample_bytes (sample_at l i) ≡ slice_at l i sample_length
  unfolding sample_bytes
  sample-back i h =
      let w = word_length in
      let valves = one-slice l (i + valves_in) _ (omega arith) refl in
      let driver = joined l (i + 2 * w) w 1 (i + valves_in) (omega arith) (in_four-four l bytes (i + 2 * w) (omega arith)) valves in
      joined l i w (2 * w + 1) (i + w) refl (in_four-four l bytes i (omega arith))
      (joined l (i + w) w (w + 1) (i + 2 * w) (omega arith) (in_four-four l bytes (i + w) (omega arith)) driver)

  words_back : (i : ℕ) → i + temperatures_length ≤ length l → words_bytes (temperatures_at l i) ≡ slice_at l i temperatures_length
  unfolding words_bytes words_at
  words_back i h = table-joined l 0 (two l) in_two i temperature_length temperature_count h (in_two-two l bytes)

  request-back : (i k : ℕ) → i + requests_length ≤ length l → request_bytes (requests_at l i k) ≡ slice_at l i requests_length
  unfolding request_bytes
  request-back i k h =
      joined l i word_length word_length (i + word_length) refl (in_four-four l bytes i (omega arith))
      (in_four-four l bytes (i + word_length) (omega arith))

  drop-back : (i k : ℕ) → k < length l → drop_bytes (requests_at l i k) ≡ slice_at l k 1
  unfolding drop_bytes
  drop-back i k h = one-slice l k _ h refl

  quantity-back : (i : ℕ) → i + quantities_length ≤ length l → quantity_bytes (quantities_at l i) ≡ slice_at l i quantities_length
  unfolding quantity_bytes
  quantity-back i h =
      joined l i quantity_length quantity_length (i + quantity_length) refl (in_two-two l bytes i (omega arith))
      (in_two-two l bytes (i + quantity_length) (omega arith))

  -- ---- the whole

  common-back : (mark : ℕ) → minor_summed ≤ length l → get_or l 0 0 ≡ mark_byte → get_or l 1 0 ≡ mark
      → common_bytes mark (minor_of l) ≡ slice_at l 0 minor_summed
  unfolding common_bytes head_bytes samples_bytes minor_of samples_of
  common-back mark h e f =
      let path = one-slice l path_at _ (omega arith) refl in
      let wire = joined l wire_at wire_length 1 path_at refl (in_two-two l bytes wire_at (omega arith)) path in
      let second = joined l 1 1 (wire_length + 1) wire_at refl (one-slice l 1 mark (omega arith) f) wire in
      joined l 0 samples_from (sample_length * string_count) samples_from refl
      (joined l 0 1 path_at 1 refl (one-slice l 0 mark_byte (omega arith) e) second)
      (table-joined l no_sample (sample_at l) sample_bytes samples_from sample_length string_count h sample-back)

  major-back : major_summed ≤ length l → get_or l 0 0 ≡ mark_byte → get_or l 1 0 ≡ major_mark
      → before_sum (major (major_of l)) ≡ slice_at l 0 major_summed
  unfolding before_sum major_of temperatures_bytes temperatures_of requests_bytes requests_of drops_bytes quantities_bytes quantities_of
  major-back h e f =
      let t = temperatures_length * string_count in
      let a = requests_length * string_count in
      let q = quantities_length * module_count in
      joined l 0 minor_summed (t + (a + (string_count + q))) temperatures_from refl (common-back major_mark (omega arith) e f)
      (joined l temperatures_from t (a + (string_count + q)) requests_from refl
      (table-joined l no_temperatures (temperatures_at l) words_bytes temperatures_from temperatures_length string_count (omega arith) words_back)
      (joined l requests_from a (string_count + q) drops_from refl
      (items-joined l no_requests asked request_bytes requests_from requests_length string_count
      (λ s b. request-back (requests_from + requests_length * s) (drops_from + s) (omega arith)))
      (joined l drops_from string_count q quantities_from refl
      (items-joined l no_requests asked drop_bytes drops_from 1 string_count
      (λ s b.
      let place : drops_from + s ≡ drops_from + 1 * s = omega arith in
      drop-back (requests_from + requests_length * s) (drops_from + s) (omega arith) ∙ ap (λ (k : ℕ). slice_at l k 1) place))
      (table-joined l no_quantities (quantities_at l) quantity_bytes quantities_from quantities_length module_count h quantity-back))))
    where
      asked : ℕ → Requests
      asked s = requests_at l (requests_from + requests_length * s) (drops_from + s)

  -- with the sum behind it
  sum_back : (n : ℕ) {b : List ℕ} → length l ≡ n + sum_length → SumRight l → b ≡ slice_at l 0 n → summed b ≡ l
  unfolding summed sum_of
  sum_back n long s e =
      let z : length l - sum_length ≡ n = omega arith in
      let sum : two l n ≡ sum_of (take n l) = rw z at s in
      joined l 0 n sum_length n (zero-add n) e
      (ap (λ (t : List ℕ). in_two (sum_of t)) e ∙ ap in_two (sym sum) ∙ in_two-two l bytes n (omega arith))
      ∙ take_all (n + sum_length) l (omega arith)

  pub bytes_back : WholeRecord l → bytes_of (values_of l) ≡ l
  unfolding bytes_of before_sum
  bytes_back (inl m) =
      rw (minor-read l m)
      (sum_back minor_summed m.long m.sum (common-back minor_mark (omega (arith, m.long)) m.mark.0 m.mark.1))
  bytes_back (inr m) =
      rw (major-read l m) (sum_back major_summed m.long m.sum (major-back (omega (arith, m.long)) m.mark.0 m.mark.1))
