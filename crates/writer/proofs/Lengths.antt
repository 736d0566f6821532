-- The lengths of a record's bytes and of their parts. Assumes nothing.
use mathlib.Core.Path.{◌≡◌, refl, ◌∙◌}
use mathlib.Core.List.{List, ◌++◌}
use Prim.Native.Nat.{ℕ, ◌+◌, ◌*◌}
use native.Mathlib.Omega.{arith}
use lib.ListN.{length, length-append}
use Rattle.cycle.specs.Size.{string_count, module_count}
use Rattle.cycle.specs.Records.{Record, minor, major}
use Rattle.cycle.specs.declared.values.Sample.{Sample}
use Rattle.cycle.specs.declared.values.Minor.{Minor}
use Rattle.cycle.specs.declared.values.Temperatures.{Temperatures}
use Rattle.cycle.specs.declared.values.Requests.{Requests}
use Rattle.cycle.specs.declared.values.Quantities.{Quantities}
use Rattle.feed.specs.Size.{minor_mark, major_mark}
use Rattle.feed.specs.Size.{samples_from, sample_length, minor_summed, temperature_count, temperature_length, temperatures_length}
use Rattle.feed.specs.Size.{requests_length, quantities_length, sum_length}
use Rattle.feed.proofs.Reports.Parts.{parts-length}
use Rattle.writer.specs.RecordBytes.{head_bytes, sample_bytes, sample_shown, samples_bytes, common_bytes, word_shown, words_bytes}
use Rattle.writer.specs.RecordBytes.{temperatures_shown, temperatures_bytes, request_bytes, requests_shown, requests_bytes}
use Rattle.writer.specs.RecordBytes.{drop_bytes, drops_shown, drops_bytes, quantity_bytes, quantities_shown, quantities_bytes, before_sum}
use Rattle.writer.specs.RecordBytes.{summed, bytes_of, length_by}

pub head-length : (mark wire path : ℕ) → length (head_bytes mark wire path) ≡ samples_from
unfolding head_bytes
head-length mark wire path = refl

pub sample-length : (x : Sample) → length (sample_bytes x) ≡ sample_length
unfolding sample_bytes
sample-length x = refl

pub samples-length : (samples : List Sample) → length (samples_bytes samples) ≡ sample_length * string_count
unfolding samples_bytes
samples-length samples = parts-length sample_length (sample_shown samples) (λ s. sample-length _) string_count

pub common-length : (mark : ℕ) (r : Minor) → length (common_bytes mark r) ≡ minor_summed
unfolding common_bytes
common-length mark r =
    length-append (head_bytes mark r.wire r.path) (samples_bytes r.samples)
    ∙ omega (arith, head-length mark r.wire r.path, samples-length r.samples)

pub words-length : (t : Temperatures) → length (words_bytes t) ≡ temperatures_length
unfolding words_bytes
words-length t = parts-length temperature_length (word_shown t) (λ k. refl) temperature_count

pub temperatures-length : (l : List Temperatures) → length (temperatures_bytes l) ≡ temperatures_length * string_count
unfolding temperatures_bytes
temperatures-length l = parts-length temperatures_length (temperatures_shown l) (λ s. words-length _) string_count

pub request-length : (x : Requests) → length (request_bytes x) ≡ requests_length
unfolding request_bytes
request-length x = refl

pub requests-length : (l : List Requests) → length (requests_bytes l) ≡ requests_length * string_count
unfolding requests_bytes
requests-length l = parts-length requests_length (requests_shown l) (λ s. request-length _) string_count

pub drop-length : (x : Requests) → length (drop_bytes x) ≡ 1
unfolding drop_bytes
drop-length x = refl

pub drops-length : (l : List Requests) → length (drops_bytes l) ≡ string_count
unfolding drops_bytes
drops-length l = parts-length 1 (drops_shown l) (λ s. drop-length _) string_count

pub quantity-length : (q : Quantities) → length (quantity_bytes q) ≡ quantities_length
unfolding quantity_bytes
quantity-length q = refl

pub quantities-length : (l : List Quantities) → length (quantities_bytes l) ≡ quantities_length * module_count
unfolding quantities_bytes
quantities-length l = parts-length quantities_length (quantities_shown l) (λ m. quantity-length _) module_count

pub before-length : (r : Record) → length (before_sum r) + sum_length ≡ length_by r
unfolding before_sum
before-length (minor r) = omega (arith, common-length minor_mark r)
before-length (major r) =
    let q = quantities_bytes r.quantities in
    let d = drops_bytes r.requests in
    let a = requests_bytes r.requests in
    let t = temperatures_bytes r.temperatures in
    omega (
      arith,
      length-append (common_bytes major_mark r.minor) (t ++ (a ++ (d ++ q))),
      length-append t (a ++ (d ++ q)),
      length-append a (d ++ q),
      length-append d q,
      common-length major_mark r.minor,
      temperatures-length r.temperatures,
      requests-length r.requests,
      drops-length r.requests,
      quantities-length r.quantities,
    )

pub bytes-length : (r : Record) → length (bytes_of r) ≡ length_by r
unfolding bytes_of summed
bytes-length r = length-append (before_sum r) _ ∙ before-length r
