-- The hall of four strings: which answer a record gets, and the next hall. 01, "Which answer a record gets" and "One cycle of a string".
-- Assumes nothing.
use Rattle.std.specs.Prelude.{ℕ, Bool, false, cond, List, [], replicate, bit_and, slice_index_or}
use Rattle.bits.specs.Bit.{bit, meets, any}
use Rattle.cycle.specs.Size.{string_count, manifold_count, module_count}
use Rattle.cycle.specs.Each.{each}
use Rattle.cycle.specs.Map.{no_masks, masks_of, mapped, refused}
use Rattle.cycle.specs.Numbers.{judged}
use Rattle.cycle.specs.Words.{no_off, no_on, fresh, minor_cycle, major_cycle}
use Rattle.cycle.specs.Banks.{no_bank, weighed_all}
use Rattle.cycle.specs.Records.{Record, minor, major, major_kind, common}
use Rattle.cycle.specs.declared.answer.Answer.TheVariants.{Taken, MapRefused, BothWays}
use Rattle.cycle.specs.declared.number.Next.{Next}
use Rattle.cycle.specs.Numbers.{Verdict}
use Rattle.std.specs.Prelude.{Ok, Err}
use Rattle.cycle.specs.declared.map.Masks.{Masks}
use Rattle.cycle.specs.declared.string.Standing.{Standing}
use Rattle.cycle.specs.declared.string.StringState.{StringState}
use Rattle.cycle.specs.declared.values.Sample.{Sample}
use Rattle.cycle.specs.declared.values.Minor.{Minor}
use Rattle.cycle.specs.declared.values.Temperatures.{Temperatures}
use Rattle.cycle.specs.declared.values.Requests.{Requests}
use Rattle.cycle.specs.declared.values.Major.{Major}
use Rattle.cycle.specs.declared.hall.Hall.{Hall}
use Rattle.cycle.specs.declared.hall.Stepped.{Stepped}

-- what stands past the end of the arrays of a record and of a hall
abbrev pub no_sample : Sample
no_sample = record { commanded = 0; pressure = 0; driver = 0; valves = 0 }

abbrev pub no_temperatures : Temperatures
no_temperatures = record { words = [] }

abbrev pub no_requests : Requests
no_requests = record { inhibit = 0; reenable = 0; drop = 0 }

abbrev pub past_standing : Standing
past_standing = record { fail = 0; valves = 0; saved = [] }

abbrev pub past_string : StringState
past_string = record {
  standing = past_standing;
  good = past_standing;
  off = no_off;
  on = no_on;
  over = record { inhibit = 0; reenable = 0 };
  close = 0;
  lost = false;
}

-- string s's part of a record
abbrev pub sample_of : Minor → ℕ → Sample
sample_of r s = slice_index_or r.samples s no_sample

-- string s of the hall
abbrev pub string_of : Hall → ℕ → StringState
string_of h s = slice_index_or h.strings s past_string

-- "n, 0 when fresh"
unfoldable pub fresh_hall : List Masks → Hall
fresh_hall masks = record
    { n = 0; masks = masks; strings = replicate string_count fresh; banks = replicate module_count no_bank }

-- starting over a map: 6 "if two masks of one string overlap", and then "a fresh one over the empty map"
unfoldable pub started : List Masks → Stepped Hall
started masks =
    cond (refused string_count masks) (record { answer = MapRefused; hall = fresh_hall (replicate string_count no_masks) })
    (record { answer = Taken; hall = fresh_hall masks })

-- steps 1 to 4 of the lowest n strings; bit s of the path byte: the data path of string s has failed
unfoldable pub minor_strings : ℕ → List Masks → Minor → Bool → Bool → List StringState → List StringState
minor_strings n masks r gap missed strings =
    each n (λ s x. minor_cycle manifold_count (masks_of masks s) (bit s r.path) (sample_of r s) gap missed x) past_string strings

-- steps 5 to 8 of the lowest n strings
unfoldable pub major_strings : ℕ → List Masks → Major → List StringState → List StringState
major_strings n masks r strings =
    each n
    (λ s x.
    major_cycle manifold_count (masks_of masks s) (bit s r.minor.path) (sample_of r.minor s)
    (slice_index_or r.temperatures s no_temperatures) (slice_index_or r.requests s no_requests) x)
    past_string strings

-- the next hall, where the record is taken: steps 1 to 4, and the new n
abbrev pub minor_taken : Minor → Next → Hall → Hall
minor_taken r next h = record {
  n = next.n;
  masks = h.masks;
  strings = minor_strings string_count h.masks r next.gap next.missed h.strings;
  banks = h.banks;
}

-- "In a major cycle also": steps 5 to 8, and the banks
abbrev pub major_taken : Major → Hall → Hall
major_taken r h = record {
  n = h.n;
  masks = h.masks;
  strings = major_strings string_count h.masks r h.strings;
  banks = weighed_all module_count r.quantities h.banks;
}

unfoldable pub taken : Record → Next → Hall → Hall
taken (minor r) next h = minor_taken r next h
taken (major r) next h = major_taken r (minor_taken r.minor next h)

-- 02, order 4: is a jet of one string "named both ways", its inhibit and its re-enable bit set; "only mapped jets counted"
abbrev pub string_both_ways : List ℕ → Requests → Bool
string_both_ways masks q = meets (bit_and (mapped manifold_count masks) q.inhibit) q.reenable

-- one of the lowest n strings; "strings with the path bit set counted too": the path byte is not looked at
unfoldable pub both_ways : ℕ → List Masks → List Requests → Bool
both_ways n masks requests = any n (λ s. string_both_ways (masks_of masks s) (slice_index_or requests s no_requests))

-- a minor record has no requests
abbrev pub record_both_ways : List Masks → Record → Bool
record_both_ways masks (minor r) = false
record_both_ways masks (major r) = both_ways string_count masks r.requests

-- "answer 7, tested after 4": only a record that its number lets be taken gets it
unfoldable pub unless_both_ways : Bool → Verdict → Verdict
unless_both_ways both (Ok next) = cond both (Err BothWays) (Ok next)
unless_both_ways both (Err a) = Err a

-- the verdict on a record at the cycle number n, over a map
unfoldable pub verdict_on : ℕ → List Masks → Record → Verdict
verdict_on n masks r = unless_both_ways (record_both_ways masks r) (judged n (common r).wire (major_kind r))

-- by the verdict: "stepped", or "as before"
abbrev pub stepped_by : Verdict → Record → Hall → Stepped Hall
stepped_by (Ok next) r h = record { answer = Taken; hall = taken r next h }
stepped_by (Err a) r h = record { answer = a; hall = h }

unfoldable pub stepped : Record → Hall → Stepped Hall
stepped r h = stepped_by (verdict_on h.n h.masks r) r h
