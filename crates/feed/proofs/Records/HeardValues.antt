-- The values that a record carries are what its bytes say, place by place. Assumes nothing.
use Rattle.std.proofs.Common.{◌≡◌, ℕ, ◌+◌, ◌*◌, ◌<◌, true, false, eqb, List, get_or, refl, ap, ◌∙◌, arith}
use Rattle.bits.specs.Bit.{bit}
use Rattle.cycle.specs.Size.{string_count, jet_count, module_count}
use Rattle.cycle.specs.Jets.{JetRecord}
use Rattle.cycle.specs.Banks.{no_quantities}
use Rattle.cycle.specs.Hall.{no_sample, no_temperatures, no_requests}
use Rattle.cycle.specs.Records.{minor, major}
use Rattle.cycle.specs.Views.{jet_says, jet_record}
use Rattle.cycle.specs.declared.values.Sample.{Sample}
use Rattle.feed.specs.Size.{word_length, temperature_length, path_at, samples_from, valves_in, sample_length, temperatures_from}
use Rattle.feed.specs.Size.{temperature_count, temperatures_length, requests_from, requests_length, drops_from, quantities_from}
use Rattle.feed.specs.Size.{quantities_length, major_mark}
use Rattle.feed.specs.Bytes.{two, four}
use Rattle.feed.specs.Values.{sample_at, samples_of, minor_of, words_at, temperatures_at, temperatures_of}
use Rattle.feed.specs.Values.{requests_at, requests_of, quantities_at, quantities_of, major_of, values_of}
use Rattle.feed.specs.Heard.{jet_heard}
use Rattle.feed.proofs.Records.Tables.{table_at}
use Rattle.feed.proofs.Records.Lengths.{by-test}

-- where the parts of string s begin, and those of module m
abbrev sample_in : ℕ → ℕ
sample_in s = samples_from + sample_length * s

abbrev temperatures_in : ℕ → ℕ
temperatures_in s = temperatures_from + temperatures_length * s

abbrev requests_in : ℕ → ℕ
requests_in s = requests_from + requests_length * s

abbrev pub quantities_in : ℕ → ℕ
quantities_in m = quantities_from + quantities_length * m

module _ (r : List ℕ) where
  sample-at : (s : ℕ) → s < string_count → get_or (samples_of r) s no_sample ≡ sample_at r (sample_in s)
  unfolding samples_of
  sample-at s l = table_at (λ k. sample_at r (sample_in k)) no_sample string_count s l

  pub requests-at : (s : ℕ) → s < string_count → get_or (requests_of r) s no_requests ≡ requests_at r (requests_in s) (drops_from + s)
  unfolding requests_of
  requests-at s l = table_at (λ k. requests_at r (requests_in k) (drops_from + k)) no_requests string_count s l

  temperatures-at : (s : ℕ) → s < string_count → get_or (temperatures_of r) s no_temperatures ≡ temperatures_at r (temperatures_in s)
  unfolding temperatures_of
  temperatures-at s l = table_at (λ k. temperatures_at r (temperatures_in k)) no_temperatures string_count s l

  word_at : (i k : ℕ) → k < temperature_count → get_or (words_at r i) k 0 ≡ two r (i + temperature_length * k)
  unfolding words_at
  word_at i k l = table_at (λ n. two r (i + temperature_length * n)) 0 temperature_count k l

  pub quantities-at : (m : ℕ) → m < module_count → get_or (quantities_of r) m no_quantities ≡ quantities_at r (quantities_in m)
  unfolding quantities_of
  quantities-at m l = table_at (λ k. quantities_at r (quantities_in k)) no_quantities module_count m l

  -- a jet's two words, the places added up as `Heard` writes them
  fuel-at : (s j : ℕ) → j < jet_count
      → get_or (temperatures_at r (temperatures_in s)).words (2 * j) 0 ≡ two r (temperatures_in s + 2 * temperature_length * j)
  fuel-at s j l =
      let e : temperatures_in s + temperature_length * (2 * j) ≡ temperatures_in s + 2 * temperature_length * j = omega arith in
      word_at (temperatures_in s) (2 * j) (omega arith) ∙ ap (two r) e

  oxidizer-at : (s j : ℕ) → j < jet_count
      → get_or (temperatures_at r (temperatures_in s)).words (2 * j + 1) 0
      ≡ two r (temperatures_from + temperature_length + temperatures_length * s + 2 * temperature_length * j)
  oxidizer-at s j l =
      let e : temperatures_in s + temperature_length * (2 * j + 1)
      ≡ temperatures_from + temperature_length + temperatures_length * s + 2 * temperature_length * j = omega arith in
      word_at (temperatures_in s) (2 * j + 1) (omega arith) ∙ ap (two r) e

  -- the sample of string s likewise
  places : (s : ℕ) → sample_at r (sample_in s)
      ≡ record {
        commanded = four r (sample_in s);
        pressure = four r (samples_from + word_length + sample_length * s);
        driver = four r (samples_from + 2 * word_length + sample_length * s);
        valves = get_or r (samples_from + valves_in + sample_length * s) 0;
      }
  places s =
      let p : sample_in s + word_length ≡ samples_from + word_length + sample_length * s = omega arith in
      let d : sample_in s + 2 * word_length ≡ samples_from + 2 * word_length + sample_length * s = omega arith in
      let v : sample_in s + valves_in ≡ samples_from + valves_in + sample_length * s = omega arith in
      λ i. record {
        commanded = four r (sample_in s);
        pressure = four r (p i);
        driver = four r (d i);
        valves = get_or r (v i) 0;
      }

module _ (n : ℕ) (r : List ℕ) (s i j : ℕ) (l : s < string_count) (b : j < jet_count) where
  heard : JetRecord
  heard = jet_heard s i j (record { n = n; bytes = r })

  minor-heard : eqb (get_or r 1 0) major_mark ≡ false → jet_record n s i j (minor (minor_of r)) ≡ heard
  unfolding minor_of heard
  minor-heard e =
      ap (λ (x : Sample). jet_says n (bit s (get_or r path_at 0)) i j x no_requests no_temperatures) (sample-at r s l ∙ places r s)
      ∙ rw e refl

  major-heard : eqb (get_or r 1 0) major_mark ≡ true → jet_record n s i j (major (major_of r)) ≡ heard
  unfolding minor_of major_of heard
  major-heard e =
      let q : requests_in s + word_length ≡ requests_from + word_length + requests_length * s = omega arith in
      ap (λ (x : Sample). jet_says n (bit s (get_or r path_at 0)) i j x (get_or (requests_of r) s no_requests)
      (get_or (temperatures_of r) s no_temperatures))
      (sample-at r s l ∙ places r s)
      ∙ rw (requests-at r s l, temperatures-at r s l, fuel-at r s j b, oxidizer-at r s j b, q, e) refl

  told : jet_record n s i j (values_of r) ≡ heard
  unfolding values_of
  told =
      by-test (eqb (get_or r 1 0) major_mark) (λ t. rw t (major-heard t)) (λ t. rw t (minor-heard t))

  pub record-heard : jet_record n s i j (values_of r) ≡ jet_heard s i j (record { n = n; bytes = r })
  unfolding heard
  record-heard = told
