-- 01, "The feed": the values that a record carries, as the cycle rules take them; nothing is stripped. Assumes nothing.
use Rattle.std.specs.Prelude.{ℕ, ◌+◌, ◌*◌, cond, List, ◌==◌, slice_index}
use Rattle.cycle.specs.Size.{string_count, module_count}
use Rattle.cycle.specs.Each.{table}
use Rattle.cycle.specs.Records.{Record, minor, major}
use Rattle.cycle.specs.declared.values.Sample.{Sample}
use Rattle.cycle.specs.declared.values.Minor.{Minor}
use Rattle.cycle.specs.declared.values.Temperatures.{Temperatures}
use Rattle.cycle.specs.declared.values.Requests.{Requests}
use Rattle.cycle.specs.declared.values.Quantities.{Quantities}
use Rattle.cycle.specs.declared.values.Major.{Major}
use Rattle.feed.specs.Size.{word_length, temperature_length, quantity_length, wire_at, path_at, samples_from, valves_in, sample_length}
use Rattle.feed.specs.Size.{temperatures_from, temperature_count, temperatures_length, requests_from, requests_length, drops_from}
use Rattle.feed.specs.Size.{quantities_from, quantities_length, major_mark}
use Rattle.feed.specs.Bytes.{two, four}

-- "for each string 13 bytes: commanded C (4), pressure P (4), driver D (4), valve-open V (1; ..)"
abbrev pub sample_at : List ℕ → ℕ → Sample
sample_at l i = record {
  commanded = four l i;
  pressure = four l (i + word_length);
  driver = four l (i + 2 * word_length);
  valves = slice_index l (i + valves_in);
}

unfoldable pub samples_of : List ℕ → List Sample
samples_of l = table string_count (λ s. sample_at l (samples_from + sample_length * s))

-- "wire cycle, 2 bytes; path byte"
unfoldable pub minor_of : List ℕ → Minor
minor_of l = record { wire = two l wire_at; path = slice_index l path_at; samples = samples_of l }

-- "string by string, jet by jet, fuel word then oxidizer word": the words of the string whose words begin at place i
unfoldable pub words_at : List ℕ → ℕ → List ℕ
words_at l i = table temperature_count (λ k. two l (i + temperature_length * k))

abbrev pub temperatures_at : List ℕ → ℕ → Temperatures
temperatures_at l i = record { words = words_at l i }

unfoldable pub temperatures_of : List ℕ → List Temperatures
temperatures_of l = table string_count (λ s. temperatures_at l (temperatures_from + temperatures_length * s))

-- "for each string an inhibit word and a re-enable word (4 bytes each)", from place i on; 02, order 6: the drop byte, at place k
abbrev pub requests_at : List ℕ → ℕ → ℕ → Requests
requests_at l i k = record { inhibit = four l i; reenable = four l (i + word_length); drop = slice_index l k }

unfoldable pub requests_of : List ℕ → List Requests
requests_of l = table string_count (λ s. requests_at l (requests_from + requests_length * s) (drops_from + s))

-- "for each module fuel then oxidizer, 2 bytes each"
abbrev pub quantities_at : List ℕ → ℕ → Quantities
quantities_at l i = record { fuel = two l i; oxidizer = two l (i + quantity_length) }

unfoldable pub quantities_of : List ℕ → List Quantities
quantities_of l = table module_count (λ m. quantities_at l (quantities_from + quantities_length * m))

-- "the same 55 bytes after the mark", and the rest
unfoldable pub major_of : List ℕ → Major
major_of l = record {
  minor = minor_of l;
  temperatures = temperatures_of l;
  requests = requests_of l;
  quantities = quantities_of l;
}

-- a record's kind is told by its mark
unfoldable pub values_of : List ℕ → Record
values_of l = cond (slice_index l 1 == major_mark) (major (major_of l)) (minor (minor_of l))
