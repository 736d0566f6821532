-- The nights that are handed in as bytes: their maps, the bytes of their records, and how they state a record with its report. Unless said,
-- a record is as in NightRecords: valves open, temperature words 64, nothing commanded or requested, and so on. Assumes nothing.
use Rattle.std.specs.Prelude.{cond, List, [], ◌∷◌, ◌++◌, ℕ, replicate}
use Rattle.cycle.specs.Map.{no_masks}
use Rattle.cycle.specs.Numbers.{is_major}
use Rattle.cycle.specs.Hall.{no_requests}
use Rattle.cycle.specs.declared.answer.Answer.TheVariants.{Taken}
use Rattle.cycle.specs.declared.map.Masks.{Masks}
use Rattle.cycle.specs.declared.values.Sample.{Sample}
use Rattle.cycle.specs.declared.values.Requests.{Requests}
use Rattle.feed.specs.Bytes.{in_two, in_four}
use Rattle.feed.specs.Format.{sum_of}
use Rattle.promises.specs.Instance.{warm_words}
use Rattle.promises.specs.NightRecords.{sample_with, quiet_sample}
use Rattle.promises.specs.NightHolds.{Handed, no_banks}

-- ---- maps beside the nights' own

-- strings 0 and 1 have one manifold each
abbrev pub two_string_map : List Masks
two_string_map =
    record { words = 0x0000000F ∷ replicate 7 0 } ∷ record { words = 0x000000F0 ∷ replicate 7 0 } ∷ no_masks ∷ no_masks ∷ []

-- string 0 has three
abbrev pub three_manifold_map : List Masks
three_manifold_map = record { words = 0x0000000F ∷ 0x000000F0 ∷ 0x00000F00 ∷ replicate 5 0 } ∷ no_masks ∷ no_masks ∷ no_masks ∷ []

-- ---- what a record says of one string

pub record Said : Type 0 where
  pub sample : Sample
  pub requests : Requests

abbrev pub quiet : Said
quiet = record { sample = quiet_sample; requests = no_requests }

-- jets commanded, without pressure
abbrev pub commanding : ℕ → Said
commanding jets = record { sample = sample_with jets 0 0xFF; requests = no_requests }

-- jets commanded, those that have pressure, and the drivers that are on
abbrev pub firing : ℕ → ℕ → ℕ → Said
firing commanded pressure driver =
    record { sample = record { commanded = commanded; pressure = pressure; driver = driver; valves = 0xFF }; requests = no_requests }

-- drivers on, without command
abbrev pub driving : ℕ → Said
driving jets = record { sample = sample_with 0 jets 0xFF; requests = no_requests }

-- only these valves are open
abbrev pub valves : ℕ → Said
valves opened = record { sample = sample_with 0 0 opened; requests = no_requests }

-- jets to be inhibited, and jets to be re-enabled
abbrev pub requesting : ℕ → ℕ → Said
requesting inhibit reenable = record { sample = quiet_sample; requests = record { inhibit = inhibit; reenable = reenable; drop = 0 } }

-- the same where only these valves are open
abbrev pub commanding_at : ℕ → ℕ → Said
commanding_at opened jets = record { sample = sample_with jets 0 opened; requests = no_requests }

abbrev pub requesting_at : ℕ → ℕ → ℕ → Said
requesting_at opened inhibit reenable =
    record { sample = sample_with 0 0 opened; requests = record { inhibit = inhibit; reenable = reenable; drop = 0 } }

-- drivers on, without command, where only these valves are open; and requests
abbrev pub driving_at : ℕ → ℕ → ℕ → ℕ → Said
driving_at opened jets inhibit reenable =
    record { sample = sample_with 0 jets opened; requests = record { inhibit = inhibit; reenable = reenable; drop = 0 } }

-- what x says, with this drop byte
abbrev pub dropping : ℕ → Said → Said
dropping drop x =
    record { sample = x.sample; requests = record { inhibit = x.requests.inhibit; reenable = x.requests.reenable; drop = drop } }

-- ---- its bytes

-- "commanded C (4), pressure P (4), driver D (4), valve-open V (1; ..)"
abbrev pub said_bytes : Said → List ℕ
said_bytes x =
    in_four x.sample.commanded ++ in_four x.sample.pressure ++ in_four x.sample.driver ++ (x.sample.valves ∷ [])

-- "wire cycle, 2 bytes; path byte (..); for each string 13 bytes: ..": strings 2 and 3 are quiet
abbrev pub common_part : ℕ → ℕ → Said → Said → List ℕ
common_part wire path first second =
    in_two wire ++ (path ∷ said_bytes first) ++ said_bytes second ++ said_bytes quiet ++ said_bytes quiet

-- "for each string an inhibit word and a re-enable word (4 bytes each)"
abbrev pub request_bytes : Said → List ℕ
request_bytes x = in_four x.requests.inhibit ++ in_four x.requests.reenable

-- 02, order 6: "one byte a string after the re-enable words of all strings"
abbrev pub drop_bytes : Said → Said → List ℕ
drop_bytes first second = first.requests.drop ∷ second.requests.drop ∷ 0x00 ∷ 0x00 ∷ []

-- "512 bytes of injector temperatures"; the requests, the drops; "for each module fuel then oxidizer, 2 bytes each": temperatures and
-- quantities as given
abbrev pub major_part : List ℕ → List ℕ → Said → Said → List ℕ
major_part temperatures quantities first second =
    temperatures ++ request_bytes first ++ request_bytes second ++ replicate 16 0x00 ++ drop_bytes first second ++ quantities

-- "sum, 2 bytes: all earlier bytes of the record, mark included"
abbrev pub with_sum : List ℕ → List ℕ
with_sum l = l ++ in_two (sum_of l)

-- a record of the cycle n, which is below 65,536 and so the wire cycle, of either kind
abbrev pub minor_at : ℕ → ℕ → Said → Said → List ℕ
minor_at n path first second = with_sum (0x52 ∷ 0x4D ∷ common_part n path first second)

abbrev pub major_with_at : List ℕ → List ℕ → ℕ → ℕ → Said → Said → List ℕ
major_with_at temperatures quantities n path first second =
    with_sum (0x52 ∷ 0x4A ∷ common_part n path first second ++ major_part temperatures quantities first second)

-- all quantities 0
abbrev pub major_at : List ℕ → ℕ → ℕ → Said → Said → List ℕ
major_at temperatures n path first second = major_with_at temperatures (replicate 12 0x00) n path first second

-- of the right kind; with these temperatures, where it is major
abbrev pub record_bytes_at : List ℕ → ℕ → ℕ → Said → Said → List ℕ
record_bytes_at temperatures n path first second =
    cond (is_major n) (major_at temperatures n path first second) (minor_at n path first second)

-- all words 64
abbrev pub record_bytes : ℕ → ℕ → Said → Said → List ℕ
record_bytes n path first second = record_bytes_at (warm_words 256) n path first second

-- ---- a record with the report that it must get

-- "the fail word (4) and close byte (1)"
pub record Shown : Type 0 where
  pub fail : ℕ
  pub close : ℕ

abbrev pub shows : ℕ → ℕ → Shown
shows fail close = record { fail = fail; close = close }

abbrev pub shown_bytes : Shown → List ℕ
shown_bytes x = in_four x.fail ++ (x.close ∷ [])

-- at the cycle n, with this path byte: what the record says of strings 0 and 1, and what the report shows of each; it answers 0, strings 2
-- and 3 have no jets and show 0, and all quantities are 0
abbrev pub at_both : ℕ → ℕ → Said → Said → Shown → Shown → Handed
at_both n path first second one other = record {
  bytes = record_bytes n path first second;
  answer = Taken;
  report = 0x52 ∷ 0x52 ∷ 0x00 ∷ in_four n ++ shown_bytes one ++ shown_bytes other ++ replicate 10 0x00 ++ no_banks;
}

-- where string 1 has no jets: the fail word and close byte of string 0
abbrev pub at : ℕ → ℕ → Said → ℕ → ℕ → Handed
at n path said fail close = at_both n path said quiet (shows fail close) (shows 0x00000000 0x00)
