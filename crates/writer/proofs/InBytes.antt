-- What is written is bytes: each is below 256. Assumes nothing.
use mathlib.Core.List.{List, [], ◌∷◌, ◌++◌}
use Prim.Native.Nat.{ℕ, zero, suc, ◌/◌, ◌%◌, ◌<◌}
use native.Mathlib.Nat.{mod-lt, zero-lt-suc}
use native.Mathlib.Omega.{arith}
use lib.ListN.{get_or}
use Rattle.cycle.specs.Size.{string_count, module_count}
use Rattle.cycle.specs.Hall.{sample_of}
use Rattle.cycle.specs.Records.{Record, minor, major}
use Rattle.cycle.specs.declared.values.Sample.{Sample}
use Rattle.cycle.specs.declared.values.Minor.{Minor}
use Rattle.feed.specs.Size.{temperature_count, mark_byte, minor_mark, major_mark}
use Rattle.feed.specs.Bytes.{in_two, in_four, parts}
use Rattle.writer.specs.RecordBytes.{head_bytes, sample_bytes, samples_bytes, sample_shown, common_bytes, words_bytes}
use Rattle.writer.specs.RecordBytes.{temperatures_shown, temperatures_bytes, request_bytes, requests_shown, requests_bytes}
use Rattle.writer.specs.RecordBytes.{drop_bytes, drops_shown, drops_bytes, quantity_bytes, quantities_shown, quantities_bytes, before_sum}
use Rattle.writer.specs.RecordBytes.{summed, bytes_of}
use Rattle.writer.specs.Fit.{FitMinor, FitRecord}

data Bytes : List ℕ → Type 0 where
  none : Bytes []
  first : {b : ℕ} {l : List ℕ} → b < 256 → Bytes l → Bytes (b ∷ l)

at : {l : List ℕ} → Bytes l → (i : ℕ) → get_or l i 0 < 256
at none i = omega arith
at (first h k) zero = h
at (first h k) (suc i) = at k i

both : {p q : List ℕ} → Bytes p → Bytes q → Bytes (p ++ q)
both none k = k
both (first h j) k = first h (both j k)

-- parts below n
all-parts : (n : ℕ) (f : ℕ → List ℕ) → ((s : ℕ) → s < n → Bytes (f s)) → Bytes (parts n f)
unfolding parts
all-parts zero f h = none
all-parts (suc n) f h = both (all-parts n f (λ s b. h s (omega arith))) (h n (omega arith))

low : (w : ℕ) → w % 256 < 256
low w = mod-lt w (zero-lt-suc 255)

in_two_lem : (w : ℕ) → Bytes (in_two w)
in_two_lem w = first (low (w / 256)) (first (low w) none)

in_four_lem : (w : ℕ) → Bytes (in_four w)
in_four_lem w = first (low (w / 16777216)) (first (low (w / 65536)) (first (low (w / 256)) (first (low w) none)))

sample-bytes : (x : Sample) → x.valves < 256 → Bytes (sample_bytes x)
unfolding sample_bytes
sample-bytes x h =
    both (in_four_lem x.commanded) (both (in_four_lem x.pressure) (both (in_four_lem x.driver) (first h none)))

common-bytes : (mark : ℕ) (r : Minor) → mark < 256 → FitMinor r → Bytes (common_bytes mark r)
unfolding common_bytes head_bytes samples_bytes
common-bytes mark r h fit =
    let mark-byte : mark_byte < 256 = omega arith in
    both (first mark-byte (first h (both (in_two_lem r.wire) (first fit.path none))))
    (all-parts string_count (sample_shown r.samples) (λ s b. sample-bytes (sample_of r s) (fit.sample s b).valves))

before-bytes : (r : Record) → FitRecord r → Bytes (before_sum r)
unfolding before_sum temperatures_bytes words_bytes requests_bytes request_bytes drops_bytes drop_bytes quantities_bytes quantity_bytes
before-bytes (minor r) fit = common-bytes minor_mark r (omega arith) fit
before-bytes (major r) fit =
    both (common-bytes major_mark r.minor (omega arith) fit.minor)
    (both (all-parts string_count (temperatures_shown r.temperatures) (λ s b. all-parts temperature_count _ (λ k c. in_two_lem _)))
    (both (all-parts string_count (requests_shown r.requests) (λ s b. both (in_four_lem _) (in_four_lem _)))
    (both (all-parts string_count (drops_shown r.requests) (λ s b. first (fit.requests s b).drop none))
    (all-parts module_count (quantities_shown r.quantities) (λ m b. both (in_two_lem _) (in_two_lem _))))))

pub bytes-in-bytes : (r : Record) → FitRecord r → (i : ℕ) → get_or (bytes_of r) i 0 < 256
unfolding bytes_of summed
bytes-in-bytes r fit = at (both (before-bytes r fit) (in_two_lem _))
