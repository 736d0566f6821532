-- Calm records: bytes that change nothing but the number, and in a major cycle the good copies and the banks, and their reports. That this
-- is what a call does is proved (proofs/Calls: Calms, CalmMajors, CalmRuns, Stretches).
-- Assumes nothing.
use Rattle.std.specs.Prelude.{◌≡◌, ℕ, ◌+◌, ◌-◌, ◌*◌, ◌/◌, ◌%◌, ◌^◌, ◌<◌, min, Bool, true, false, cond, not, ◌&&◌, List, ◌++◌, Option, None, Some, length, take, drop, ◌==◌, nat_eq, nat_lt, slice_index}
use Rattle.bits.specs.Bit.{word_bits, any, every}
use Rattle.cycle.specs.Size.{string_count, jet_count, major_every, last_count}
use Rattle.cycle.specs.Each.{each}
use Rattle.cycle.specs.Answers.{is_taken}
use Rattle.cycle.specs.Leak.{cold}
use Rattle.cycle.specs.Hall.{string_of}
use Rattle.cycle.specs.Calm.{all_calm, mapped_words, follows, all_quiet, finds_none, some_leak, kept_all, onward}
use Rattle.cycle.specs.declared.banks.Bank.{Bank}
use Rattle.cycle.specs.declared.answer.Answer.{Answer}
use Rattle.cycle.specs.declared.hall.Hall.{Hall}
use Rattle.cycle.specs.declared.slots.OnSlots.{OnSlots}
use Rattle.cycle.specs.declared.values.Sample.{Sample}
use Rattle.feed.specs.Size.{mark_byte, minor_mark, major_mark, major_length, balance_at, quantities_from}
use Rattle.feed.specs.Size.{minor_length, wire_at, count_at, strings_from, report_length, outbox_needed}
use Rattle.feed.specs.Size.{temperature_length, temperature_count, temperatures_from, temperatures_length, samples_from, sample_length}
use Rattle.feed.specs.Size.{requests_from, requests_length, drops_from}
use Rattle.feed.specs.Bytes.{two, in_four}
use Rattle.feed.specs.Format.{good_minor, good_major}
use Rattle.feed.specs.Report.{banks_bytes}
use Rattle.feed.specs.Values.{sample_at, minor_of, temperatures_at, requests_at, quantities_of}
use Rattle.feed.specs.Inside.LowFirst.{turned}
use Rattle.feed.specs.declared.calm.Calm.{Calm}

-- commanded and pressure words with their bytes in the other order, as they stand in the record: bits are told byte by byte
abbrev pub turned_sample : Sample → Sample
turned_sample x = record { commanded = turned x.commanded; pressure = turned x.pressure; driver = x.driver; valves = x.valves }

-- words, as an array of u32 has them
abbrev pub Words : List ℕ → Type 0
Words words = (s : ℕ) → s < string_count → slice_index words s < 2 ^ word_bits

-- each string's mapped jets in the same order
unfoldable pub turned_words : List ℕ → List ℕ
turned_words words = each string_count (λ s x. turned x) 0 words

-- what is carried on of a hall's jets with the bytes in that order
abbrev pub TurnedJets : Hall → List ℕ → Type 0
TurnedJets h turned = (turned ≡ turned_words (mapped_words h.masks)) × Words (mapped_words h.masks)

-- what is carried on is the hall's
abbrev pub CalmOf : Hall → Calm → Type 0
CalmOf h calm = (calm.jets ≡ mapped_words h.masks) × TurnedJets h calm.turned

-- calm records can follow a taken one that left nothing in the store and nothing under way
unfoldable pub calm_after : Answer → ℕ → Hall → Option Calm
calm_after a count h =
    cond (is_taken a && (count == 0 && all_calm string_count h.strings))
    (Some (record { jets = mapped_words h.masks; turned = turned_words (mapped_words h.masks) }))
    None

-- the bytes are a good minor record of the next cycle that finds nothing
unfoldable pub passes : Hall → List ℕ → Bool
passes h l =
    (slice_index l 0 == mark_byte)
    && (slice_index l 1 == minor_mark && (follows h.n (two l wire_at) false && (all_quiet (minor_of l) h && good_minor l)))

-- the piece has bytes of that number from place `from` on that pass a test
abbrev pub tested_at : (List ℕ → Bool) → ℕ → ℕ → List ℕ → Bool
tested_at test size from piece = cond (nat_lt (length piece - from) size) false (test (take size (drop from piece)))

-- it has such a record there
abbrev pub passes_at : Hall → ℕ → List ℕ → Bool
passes_at h from piece = tested_at (passes h) minor_length from piece

-- the minor cycles after number n, before the next major one; none where the count may end among them
unfoldable pub minors_ahead : ℕ → ℕ
minors_ahead n = cond (nat_lt (last_count - n) major_every) 0 (major_every - 1 - n % major_every)

-- the calm minor records of a stretch at the most, by the number, by so many bytes of the piece, and by the room in the outbox but for
-- that of one report
unfoldable pub stretch : ℕ → ℕ → ℕ → ℕ
stretch n fed room =
    cond (nat_lt room outbox_needed) 0 (min (minors_ahead n) (min (fed / minor_length) ((room - outbox_needed) / report_length)))

-- a report with another number
unfoldable pub renumbered : ℕ → List ℕ → List ℕ
renumbered n report = take count_at report ++ (in_four n ++ drop strings_from report)

-- an outbox that begins with a report: behind it what is made of that
abbrev pub told_behind : (List ℕ → List ℕ) → List ℕ → List ℕ
told_behind change out =
    let report = take report_length out in
    report ++ (change report ++ drop (report_length + report_length) out)

-- the same one with another number
abbrev pub told_again : ℕ → List ℕ → List ℕ
told_again n out = told_behind (renumbered n) out

-- ---- major records, by their bytes

-- one of the n temperature words from place i on is cold; and one of a string's, which begin there
unfoldable pub cold_among : ℕ → List ℕ → ℕ → Bool
cold_among n l i = any n (λ k. cold (two l (i + temperature_length * k)))

abbrev pub some_cold : List ℕ → ℕ → Bool
some_cold l i = cold_among temperature_count l i

-- all jets of all strings are mapped
unfoldable pub all_mapped : List ℕ → Bool
all_mapped jets = every string_count (λ s. nat_eq (slice_index jets s) (2 ^ jet_count - 1))

-- a mapped jet of string s leaks
abbrev pub leak_at : List ℕ → List ℕ → ℕ → Bool
leak_at l jets s = some_leak (slice_index jets s) (temperatures_at l (temperatures_from + temperatures_length * s))

-- steps 5 to 8 find nothing in string s but what its temperatures say
abbrev pub none_found : List ℕ → ℕ → OnSlots ℕ → ℕ → ℕ → Bool
none_found l jets on close s =
    finds_none jets (sample_at l (samples_from + sample_length * s)) (requests_at l (requests_from + requests_length * s) (drops_from + s)) on close

-- no byte of the requests and drops is set, of whatever jet or manifold
unfoldable pub none_asked : List ℕ → Bool
none_asked l = every (quantities_from - requests_from) (λ i. nat_eq (slice_index l (requests_from + i)) 0)

-- steps 5 to 8 find nothing in string s of a hall but what its temperatures say
abbrev pub none_found_in : Hall → List ℕ → ℕ → Bool
none_found_in h l s = none_found l (slice_index (mapped_words h.masks) s) (string_of h s).on (string_of h s).close s

-- no string finds anything in any step but what its temperatures say
abbrev pub all_still : Hall → List ℕ → Bool
all_still h l = all_quiet (minor_of l) h && every string_count (none_found_in h l)

-- the bytes are a good major record of the next cycle that asks for nothing and finds nothing
unfoldable pub major_passes : Hall → List ℕ → Bool
major_passes h l =
    (slice_index l 0 == mark_byte)
    && (slice_index l 1 == major_mark
    && (follows h.n (two l wire_at) true
    && (none_asked l && (all_still h l && (not (any string_count (leak_at l (mapped_words h.masks))) && good_major l)))))

-- the piece has such a record from place `from` on
abbrev pub major_passes_at : Hall → ℕ → List ℕ → Bool
major_passes_at h from piece = tested_at (major_passes h) major_length from piece

-- the hall that it leaves
abbrev pub kept_after : Hall → ℕ → List ℕ → Hall
kept_after h from piece = kept_all (quantities_of (take major_length (drop from piece))) (onward h)

-- a report with other banks
unfoldable pub rebanked : List Bank → List ℕ → List ℕ
rebanked banks report = take balance_at report ++ banks_bytes banks

-- an outbox that begins with a report: behind it the same one with the number and the banks of a hall
abbrev pub told_kept : Hall → List ℕ → List ℕ
told_kept h out = told_behind (λ report. rebanked h.banks (renumbered h.n report)) out

-- the hall that is left, if it passes
abbrev pub kept_by : Bool → Hall → ℕ → List ℕ → Option Hall
kept_by b h from piece = cond b (Some (kept_after h from piece)) None

-- and the outbox
abbrev pub told_by : Option Hall → List ℕ → List ℕ
told_by None out = out
told_by (Some h) out = told_kept h out
