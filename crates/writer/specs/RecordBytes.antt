-- 02, order 1: "Given the values of a minor or major record, write its .. bytes": the bytes, in the words and the order of 01, "The feed",
-- as order 6 amends it. Assumes nothing.
use Rattle.std.specs.Prelude.{List, [], ◌∷◌, ◌++◌, ℕ, get_or}
use Rattle.cycle.specs.Size.{string_count, module_count}
use Rattle.cycle.specs.Banks.{no_quantities}
use Rattle.cycle.specs.Hall.{no_sample, no_temperatures, no_requests}
use Rattle.cycle.specs.Records.{Record, minor, major}
use Rattle.cycle.specs.declared.values.Sample.{Sample}
use Rattle.cycle.specs.declared.values.Minor.{Minor}
use Rattle.cycle.specs.declared.values.Temperatures.{Temperatures}
use Rattle.cycle.specs.declared.values.Requests.{Requests}
use Rattle.cycle.specs.declared.values.Quantities.{Quantities}
use Rattle.feed.specs.Size.{mark_byte, minor_mark, major_mark, temperature_count, minor_length, major_length}
use Rattle.feed.specs.Bytes.{in_two, in_four, parts}
use Rattle.feed.specs.Format.{sum_of}

-- "mark ..; wire cycle, 2 bytes; path byte"
unfoldable pub head_bytes : ℕ → ℕ → ℕ → List ℕ
head_bytes mark wire path = mark_byte ∷ mark ∷ in_two wire ++ (path ∷ [])

-- "for each string 13 bytes: commanded C (4), pressure P (4), driver D (4), valve-open V (1; ..)"
unfoldable pub sample_bytes : Sample → List ℕ
sample_bytes x = in_four x.commanded ++ (in_four x.pressure ++ (in_four x.driver ++ (x.valves ∷ [])))

abbrev pub sample_shown : List Sample → ℕ → List ℕ
sample_shown samples s = sample_bytes (get_or samples s no_sample)

unfoldable pub samples_bytes : List Sample → List ℕ
samples_bytes samples = parts string_count (sample_shown samples)

-- what both kinds have before the sum or the temperatures: the mark of the kind, and "the same 55 bytes after the mark"
unfoldable pub common_bytes : ℕ → Minor → List ℕ
common_bytes mark r = head_bytes mark r.wire r.path ++ samples_bytes r.samples

-- "512 bytes of injector temperatures (string by string, jet by jet, fuel word then oxidizer word)"
abbrev pub word_shown : Temperatures → ℕ → List ℕ
word_shown t k = in_two (get_or t.words k 0)

unfoldable pub words_bytes : Temperatures → List ℕ
words_bytes t = parts temperature_count (word_shown t)

abbrev pub temperatures_shown : List Temperatures → ℕ → List ℕ
temperatures_shown temperatures s = words_bytes (get_or temperatures s no_temperatures)

unfoldable pub temperatures_bytes : List Temperatures → List ℕ
temperatures_bytes temperatures = parts string_count (temperatures_shown temperatures)

-- "for each string an inhibit word and a re-enable word (4 bytes each)"
unfoldable pub request_bytes : Requests → List ℕ
request_bytes x = in_four x.inhibit ++ in_four x.reenable

abbrev pub requests_shown : List Requests → ℕ → List ℕ
requests_shown requests s = request_bytes (get_or requests s no_requests)

unfoldable pub requests_bytes : List Requests → List ℕ
requests_bytes requests = parts string_count (requests_shown requests)

-- 02, order 6: "one byte a string after the re-enable words of all strings"
unfoldable pub drop_bytes : Requests → List ℕ
drop_bytes x = x.drop ∷ []

abbrev pub drops_shown : List Requests → ℕ → List ℕ
drops_shown requests s = drop_bytes (get_or requests s no_requests)

unfoldable pub drops_bytes : List Requests → List ℕ
drops_bytes requests = parts string_count (drops_shown requests)

-- "for each module fuel then oxidizer, 2 bytes each"
unfoldable pub quantity_bytes : Quantities → List ℕ
quantity_bytes q = in_two q.fuel ++ in_two q.oxidizer

abbrev pub quantities_shown : List Quantities → ℕ → List ℕ
quantities_shown quantities m = quantity_bytes (get_or quantities m no_quantities)

unfoldable pub quantities_bytes : List Quantities → List ℕ
quantities_bytes quantities = parts module_count (quantities_shown quantities)

-- all bytes before the sum
unfoldable pub before_sum : Record → List ℕ
before_sum (minor r) = common_bytes minor_mark r
before_sum (major r) =
    common_bytes major_mark r.minor
    ++ (temperatures_bytes r.temperatures
    ++ (requests_bytes r.requests ++ (drops_bytes r.requests ++ quantities_bytes r.quantities)))

-- "sum, 2 bytes: all earlier bytes of the record, mark included, added modulo 65,536": the reader's own
unfoldable pub summed : List ℕ → List ℕ
summed l = l ++ in_two (sum_of l)

unfoldable pub bytes_of : Record → List ℕ
bytes_of r = summed (before_sum r)

-- "its 59 or .. bytes"; order 6: "The record is now 619 bytes"
abbrev pub length_by : Record → ℕ
length_by (minor r) = minor_length
length_by (major r) = major_length
