-- The values that are read from a record's bytes are those that were written. Assumes nothing.
use mathlib.Core.Path.{◌≡◌, ap, ◌∙◌}
use mathlib.Core.List.{List}
use Prim.Native.Nat.{ℕ, ◌+◌, ◌*◌, ◌/◌, ◌%◌, ◌<◌}
use native.Mathlib.Decide.{ℕ_discrete}
use native.Mathlib.Omega.{arith}
use lib.ListN.{length, get_or}
use Rattle.cycle.specs.Size.{string_count, module_count}
use Rattle.cycle.specs.Banks.{no_quantities}
use Rattle.cycle.specs.Hall.{no_sample, no_temperatures, no_requests}
use Rattle.cycle.specs.Records.{Record, minor, major, common}
use Rattle.cycle.specs.declared.values.Sample.{Sample}
use Rattle.cycle.specs.declared.values.Minor.{Minor}
use Rattle.cycle.specs.declared.values.Temperatures.{Temperatures}
use Rattle.cycle.specs.declared.values.Requests.{Requests}
use Rattle.cycle.specs.declared.values.Quantities.{Quantities}
use Rattle.cycle.specs.declared.values.Major.{Major}
use Rattle.feed.specs.Size.{temperature_count, temperature_length}
use Rattle.feed.specs.Bytes.{two}
use Rattle.feed.specs.Values.{sample_at, samples_of, minor_of, words_at, temperatures_at, temperatures_of, requests_at, requests_of}
use Rattle.feed.specs.Values.{quantities_at, quantities_of, major_of, values_of}
use Rattle.writer.specs.RecordBytes.{bytes_of}
use Rattle.writer.specs.Fit.{FitMinor, FitMajor, FitRecord}
use Rattle.writer.specs.Carries.{CarriesSample, CarriesMinor, CarriesTemperatures, CarriesRequests, CarriesQuantities}
use Rattle.writer.specs.Carries.{CarriesMajor, Carries}
use Rattle.writer.proofs.Listed.{listed}
use Rattle.writer.proofs.Places.{marked, mark_by, common-stands, bytes-carry}

-- ---- each part read where it is carried

module _ (l : List ℕ) (a : ℕ) where
  sample-back : (x : Sample) → CarriesSample l a x → sample_at l a ≡ x
  sample-back x c = λ i. record {
    commanded = c.commanded i;
    pressure = c.pressure i;
    driver = c.driver i;
    valves = c.valves i;
  }

  -- word k is the fuel or the oxidizer word of its jet
  word_back : (t : Temperatures) → CarriesTemperatures l a t → (k : ℕ) → k < temperature_count
      → two l (a + temperature_length * k) ≡ get_or t.words k 0
  word_back t c k b = by (ℕ_discrete (k % 2) 0)
    where
      by : Dec (k % 2 ≡ 0) → two l (a + temperature_length * k) ≡ get_or t.words k 0
      by (yes e) =
          let p : a + temperature_length * k ≡ a + 4 * (k / 2) = omega arith in
          let q : 2 * (k / 2) ≡ k = omega arith in
          ap (two l) p ∙ c.fuel (k / 2) (omega arith) ∙ ap (λ (n : ℕ). get_or t.words n 0) q
      by (no e) =
          let p : a + temperature_length * k ≡ a + 4 * (k / 2) + 2 = omega arith in
          let q : 2 * (k / 2) + 1 ≡ k = omega arith in
          ap (two l) p ∙ c.oxidizer (k / 2) (omega arith) ∙ ap (λ (n : ℕ). get_or t.words n 0) q

  temperatures-back : (t : Temperatures) → length t.words ≡ temperature_count → CarriesTemperatures l a t → temperatures_at l a ≡ t
  unfolding words_at
  temperatures-back t e c =
      let words : words_at l a ≡ t.words = listed _ 0 temperature_count t.words e (word_back t c) in
      λ i. record { words = words i }

  requests-back : (k : ℕ) (x : Requests) → CarriesRequests l a k x → requests_at l a k ≡ x
  requests-back k x c = λ i. record { inhibit = c.inhibit i; reenable = c.reenable i; drop = c.drop i }

  quantities-back : (q : Quantities) → CarriesQuantities l a q → quantities_at l a ≡ q
  quantities-back q c = λ i. record { fuel = c.fuel i; oxidizer = c.oxidizer i }

-- ---- the whole

module _ (l : List ℕ) where
  minor-back : (r : Minor) → FitMinor r → CarriesMinor l r → minor_of l ≡ r
  unfolding minor_of samples_of
  minor-back r fit c =
      let samples : samples_of l ≡ r.samples =
      listed _ no_sample string_count r.samples fit.strings (λ s b. sample-back l _ _ (c.samples s b)) in
      λ i. record { wire = c.wire i; path = c.path i; samples = samples i }

  major-back : (r : Major) → FitMajor r → CarriesMajor l r → major_of l ≡ r
  unfolding major_of temperatures_of requests_of quantities_of
  major-back r fit c =
      let same : minor_of l ≡ r.minor = minor-back r.minor fit.minor c.common in
      let temperatures : temperatures_of l ≡ r.temperatures =
      listed _ no_temperatures string_count r.temperatures fit.heated
      (λ s b. temperatures-back l _ _ (fit.temperatures s b).many (c.temperatures s b)) in
      let requests : requests_of l ≡ r.requests =
      listed _ no_requests string_count r.requests fit.asked (λ s b. requests-back l _ _ _ (c.requests s b)) in
      let quantities : quantities_of l ≡ r.quantities =
      listed _ no_quantities module_count r.quantities fit.modules (λ m b. quantities-back l _ _ (c.quantities m b)) in
      λ i. record { minor = same i; temperatures = temperatures i; requests = requests i; quantities = quantities i }

-- bytes of the record's kind that carry its values
pub carried-values : (l : List ℕ) (r : Record) → FitRecord r → get_or l 1 0 ≡ mark_by r → Carries l r → values_of l ≡ r
unfolding values_of
carried-values l (minor r) fit e c = rw e (ap minor (minor-back l r fit c))
carried-values l (major r) fit e c = rw e (ap major (major-back l r fit c))

pub values-back : (r : Record) → FitRecord r → values_of (bytes_of r) ≡ r
values-back r fit =
    carried-values (bytes_of r) r fit (marked (bytes_of r) (mark_by r) (common r) (common-stands r)).1 (bytes-carry r fit)
