-- What stands where in a record's bytes: mark, path byte, valve bytes, and every value that fits its width. Assumes nothing.
use mathlib.Core.Path.{◌≡◌, refl, sym, ap, subst, ◌∙◌}
use mathlib.Core.List.{List, [], ◌∷◌, ◌++◌}
use Prim.Native.Nat.{ℕ, ◌+◌, ◌*◌, ◌^◌, ◌<◌}
use native.Mathlib.Nat.{zero-add}
use native.Mathlib.Omega.{arith}
use lib.ListN.{get_or}
use Rattle.cycle.specs.Size.{string_count, module_count}
use Rattle.cycle.specs.Banks.{no_quantities}
use Rattle.cycle.specs.Hall.{sample_of, no_temperatures, no_requests}
use Rattle.cycle.specs.Records.{Record, minor, major, common}
use Rattle.cycle.specs.declared.values.Sample.{Sample}
use Rattle.cycle.specs.declared.values.Minor.{Minor}
use Rattle.cycle.specs.declared.values.Temperatures.{Temperatures}
use Rattle.cycle.specs.declared.values.Requests.{Requests}
use Rattle.cycle.specs.declared.values.Quantities.{Quantities}
use Rattle.cycle.specs.declared.values.Major.{Major}
use Rattle.feed.specs.Size.{mark_byte, minor_mark, major_mark, wire_at, path_at, samples_from, valves_in, sample_length}
use Rattle.feed.specs.Size.{temperature_count, temperature_length, temperatures_from, temperatures_length, requests_from, requests_length}
use Rattle.feed.specs.Size.{drops_from, quantities_from, quantities_length, quantity_length, word_length}
use Rattle.feed.specs.Bytes.{two, four, in_two, in_four}
use Rattle.feed.specs.Format.{sum_of}
use Rattle.feed.proofs.Records.NumbersInBytes.{two-in_two, four-in_four, two-stands, four-stands}
use Rattle.feed.proofs.Reports.Stands.{Stands, front, back, part}
use Rattle.writer.specs.RecordBytes.{head_bytes, sample_bytes, sample_shown, samples_bytes, common_bytes, word_shown, words_bytes}
use Rattle.writer.specs.RecordBytes.{temperatures_shown, temperatures_bytes, request_bytes, requests_shown, requests_bytes}
use Rattle.writer.specs.RecordBytes.{drop_bytes, drops_shown, drops_bytes, quantity_bytes, quantities_shown, quantities_bytes, before_sum}
use Rattle.writer.specs.RecordBytes.{summed, bytes_of}
use Rattle.writer.specs.Fit.{FitSample, FitMinor, FitTemperatures, FitRequests, FitQuantities, FitRecord}
use Rattle.writer.specs.Carries.{CarriesSample, CarriesMinor, CarriesTemperatures, CarriesRequests, CarriesQuantities}
use Rattle.writer.specs.Carries.{Carries}
use Rattle.writer.proofs.Lengths.{head-length, sample-length, common-length, words-length, temperatures-length, request-length}
use Rattle.writer.proofs.Lengths.{requests-length, drop-length, drops-length, quantity-length}

module _ (l : List ℕ) where
  -- ---- a number where its bytes stand

  pub two_at : (w a : ℕ) → w < 2 ^ 16 → Stands l (in_two w) a → two l a ≡ w
  two_at w a fit h = two-stands l (in_two w) a h ∙ two-in_two w fit

  four-at : (w a : ℕ) → w < 2 ^ 32 → Stands l (in_four w) a → four l a ≡ w
  four-at w a fit h = four-stands l (in_four w) a h ∙ four-in_four w fit

  -- ---- the values of a part where its bytes stand

  pub valves-at : (x : Sample) (a : ℕ) → Stands l (sample_bytes x) a → get_or l (a + valves_in) 0 ≡ x.valves
  unfolding sample_bytes
  valves-at x a h = h valves_in (omega arith)

  sample-carried : (x : Sample) (a : ℕ) → FitSample x → Stands l (sample_bytes x) a → CarriesSample l a x
  unfolding sample_bytes
  sample-carried x a fit h =
      let c = in_four x.commanded in
      let p = in_four x.pressure in
      let d = in_four x.driver in
      let v = x.valves ∷ [] in
      record {
        commanded = four-at x.commanded a fit.commanded (front l c (p ++ (d ++ v)) a h);
        pressure = four-at x.pressure (a + word_length) fit.pressure
            (front l p (d ++ v) (a + word_length) (back l c (p ++ (d ++ v)) a word_length refl h));
        driver = four-at x.driver (a + 2 * word_length) fit.driver
            (front l d v (a + 2 * word_length) (back l (c ++ p) (d ++ v) a (2 * word_length) refl h));
        valves = valves-at x a h;
      }

  temperatures-carried : (t : Temperatures) (a : ℕ) → FitTemperatures t → Stands l (words_bytes t) a → CarriesTemperatures l a t
  unfolding words_bytes
  temperatures-carried t a fit h =
      let word : (k : ℕ) → k < temperature_count → two l (a + temperature_length * k) ≡ get_or t.words k 0 =
      λ k b.
      two_at (get_or t.words k 0) (a + temperature_length * k) (fit.word k b)
      (part l temperature_count temperature_length (word_shown t) (λ i. refl) a h k b) in
      record {
        fuel = λ j b.
            let e : a + 4 * j ≡ a + temperature_length * (2 * j) = omega arith in
            ap (two l) e ∙ word (2 * j) (omega arith);
        oxidizer = λ j b.
            let e : a + 4 * j + 2 ≡ a + temperature_length * (2 * j + 1) = omega arith in
            ap (two l) e ∙ word (2 * j + 1) (omega arith);
      }

  pub drop_at : (x : Requests) (k : ℕ) → Stands l (drop_bytes x) k → get_or l k 0 ≡ x.drop
  unfolding drop_bytes
  drop_at x k h = let e : k + 0 ≡ k = omega arith in ap (λ (n : ℕ). get_or l n 0) (sym e) ∙ h 0 (omega arith)

  requests-carried : (x : Requests) (a k : ℕ) → FitRequests x → Stands l (request_bytes x) a → Stands l (drop_bytes x) k
      → CarriesRequests l a k x
  unfolding request_bytes
  requests-carried x a k fit h d =
      let i = in_four x.inhibit in
      let r = in_four x.reenable in
      record {
        inhibit = four-at x.inhibit a fit.inhibit (front l i r a h);
        reenable = four-at x.reenable (a + word_length) fit.reenable (back l i r a word_length refl h);
        drop = drop_at x k d;
      }

  pub quantities-carried : (q : Quantities) (a : ℕ) → FitQuantities q → Stands l (quantity_bytes q) a → CarriesQuantities l a q
  unfolding quantity_bytes
  quantities-carried q a fit h =
      let f = in_two q.fuel in
      let o = in_two q.oxidizer in
      record {
        fuel = two_at q.fuel a fit.fuel (front l f o a h);
        oxidizer = two_at q.oxidizer (a + quantity_length) fit.oxidizer (back l f o a quantity_length refl h);
      }

  -- ---- the bytes of both kinds

  module _ (mark : ℕ) (r : Minor) (h : Stands l (common_bytes mark r) 0) where
    head-stands : Stands l (head_bytes mark r.wire r.path) 0
    unfolding common_bytes
    head-stands = front l (head_bytes mark r.wire r.path) (samples_bytes r.samples) 0 h

    pub marked : (get_or l 0 0 ≡ mark_byte) × (get_or l 1 0 ≡ mark)
    unfolding head_bytes
    marked = (head-stands 0 (omega arith), head-stands 1 (omega arith))

    pub path-there : get_or l path_at 0 ≡ r.path
    unfolding head_bytes
    path-there = head-stands path_at (omega arith)

    pub sample-stands : (s : ℕ) → s < string_count → Stands l (sample_bytes (sample_of r s)) (samples_from + sample_length * s)
    unfolding common_bytes samples_bytes
    sample-stands s b =
        part l string_count sample_length (sample_shown r.samples) (λ i. sample-length _) samples_from
        (back l (head_bytes mark r.wire r.path) (samples_bytes r.samples) 0 samples_from
        (head-length mark r.wire r.path) h)
        s b

    minor-carried : FitMinor r → CarriesMinor l r
    unfolding head_bytes
    minor-carried fit =
        let start = mark_byte ∷ mark ∷ [] in
        let wire = in_two r.wire in
        let path = r.path ∷ [] in
        record {
          wire = two_at r.wire wire_at fit.wire (front l wire path wire_at (back l start (wire ++ path) 0 wire_at refl head-stands));
          path = path-there;
          samples = λ s b. sample-carried (sample_of r s) (samples_from + sample_length * s) (fit.sample s b) (sample-stands s b);
        }

  -- ---- the bytes that only a major record has

  module _ (r : Major) (h : Stands l (before_sum (major r)) 0) where
    end : List ℕ
    end = drops_bytes r.requests ++ quantities_bytes r.quantities

    tail : List ℕ
    tail = requests_bytes r.requests ++ end

    behind : Stands l (temperatures_bytes r.temperatures ++ tail) temperatures_from
    unfolding before_sum tail end
    behind =
        back l (common_bytes major_mark r.minor) (temperatures_bytes r.temperatures ++ tail) 0 temperatures_from
        (common-length major_mark r.minor) h

    behind-temperatures : Stands l tail requests_from
    behind-temperatures =
        back l (temperatures_bytes r.temperatures) tail temperatures_from (temperatures_length * string_count)
        (temperatures-length r.temperatures) behind

    temperatures-stand : (s : ℕ) → s < string_count
        → Stands l (temperatures_shown r.temperatures s) (temperatures_from + temperatures_length * s)
    unfolding temperatures_bytes
    temperatures-stand s b =
        part l string_count temperatures_length (temperatures_shown r.temperatures) (λ i. words-length _) temperatures_from
        (front l (temperatures_bytes r.temperatures) tail temperatures_from behind) s b

    requests-stand : (s : ℕ) → s < string_count → Stands l (requests_shown r.requests s) (requests_from + requests_length * s)
    unfolding tail requests_bytes
    requests-stand s b =
        part l string_count requests_length (requests_shown r.requests) (λ i. request-length _) requests_from
        (front l (requests_bytes r.requests) end requests_from behind-temperatures) s b

    behind-requests : Stands l end drops_from
    unfolding tail
    behind-requests =
        back l (requests_bytes r.requests) end requests_from (requests_length * string_count) (requests-length r.requests)
        behind-temperatures

    pub drops-stand : (s : ℕ) → s < string_count → Stands l (drops_shown r.requests s) (drops_from + s)
    unfolding end drops_bytes
    drops-stand s b =
        let place : drops_from + 1 * s ≡ drops_from + s = omega arith in
        subst (Stands l (drops_shown r.requests s)) place
        (part l string_count 1 (drops_shown r.requests) (λ i. drop-length _) drops_from
        (front l (drops_bytes r.requests) (quantities_bytes r.quantities) drops_from behind-requests) s b)

    pub quantities-stand : (m : ℕ) → m < module_count
        → Stands l (quantities_shown r.quantities m) (quantities_from + quantities_length * m)
    unfolding end quantities_bytes
    quantities-stand m b =
        part l module_count quantities_length (quantities_shown r.quantities) (λ i. quantity-length _) quantities_from
        (back l (drops_bytes r.requests) (quantities_bytes r.quantities) drops_from string_count (drops-length r.requests)
        behind-requests)
        m b

-- ---- the whole

-- the second byte of the mark
abbrev pub mark_by : Record → ℕ
mark_by (minor r) = minor_mark
mark_by (major r) = major_mark

pub before_stands : (r : Record) → Stands (bytes_of r) (before_sum r) 0
unfolding bytes_of summed
before_stands r =
    front (bytes_of r) (before_sum r) (in_two (sum_of (before_sum r))) 0 (λ i b. ap (λ (n : ℕ). get_or (bytes_of r) n 0) (zero-add i))

pub common-stands : (r : Record) → Stands (bytes_of r) (common_bytes (mark_by r) (common r)) 0
unfolding before_sum
common-stands (minor r) = before_stands (minor r)
common-stands (major r) =
    front (bytes_of (major r)) (common_bytes major_mark r.minor)
    (temperatures_bytes r.temperatures
    ++ (requests_bytes r.requests ++ (drops_bytes r.requests ++ quantities_bytes r.quantities))) 0
    (before_stands (major r))

common-carried : (r : Record) → FitMinor (common r) → CarriesMinor (bytes_of r) (common r)
common-carried r fit = minor-carried (bytes_of r) (mark_by r) (common r) (common-stands r) fit

pub bytes-carry : (r : Record) → FitRecord r → Carries (bytes_of r) r
bytes-carry (minor r) fit = common-carried (minor r) fit
bytes-carry (major r) fit =
    let l = bytes_of (major r) in
    let h = before_stands (major r) in
    record {
      common = common-carried (major r) fit.minor;
      temperatures = λ s b.
          temperatures-carried l (get_or r.temperatures s no_temperatures) (temperatures_from + temperatures_length * s)
          (fit.temperatures s b) (temperatures-stand l r h s b);
      requests = λ s b.
          requests-carried l (get_or r.requests s no_requests) (requests_from + requests_length * s) (drops_from + s)
          (fit.requests s b) (requests-stand l r h s b) (drops-stand l r h s b);
      quantities = λ m b.
          quantities-carried l (get_or r.quantities m no_quantities) (quantities_from + quantities_length * m) (fit.quantities m b)
          (quantities-stand l r h m b);
    }
