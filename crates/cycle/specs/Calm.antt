-- Minor records that change nothing of any string, and major ones that change no more than the good copies: nothing is under way in the hall, the record is that of the next cycle, and it finds
-- nothing. That the rules then leave every string as it is is proved (proofs/CalmHalls). Assumes nothing.
use Rattle.std.specs.Prelude.{ℕ, ◌+◌, ◌%◌, Bool, not, ◌&&◌, List, replicate, ◌==◌, bit_and, bit_or, nat_lt, slice_index_or}
use Rattle.bits.specs.Bit.{without, any, every}
use Rattle.cycle.specs.Size.{string_count, manifold_count, module_count, last_count, wire_span}
use Rattle.cycle.specs.Each.{each}
use Rattle.cycle.specs.Map.{masks_of, mapped}
use Rattle.cycle.specs.Numbers.{wrong_kind}
use Rattle.cycle.specs.Words.{leak_word, kept}
use Rattle.cycle.specs.Banks.{weighed_all}
use Rattle.cycle.specs.Hall.{no_temperatures, no_requests, past_string, sample_of, string_of}
use Rattle.cycle.specs.declared.hall.Hall.{Hall}
use Rattle.cycle.specs.declared.map.Masks.{Masks}
use Rattle.cycle.specs.declared.slots.OnSlots.{OnSlots}
use Rattle.cycle.specs.declared.string.StringState.{StringState}
use Rattle.cycle.specs.declared.values.Sample.{Sample}
use Rattle.cycle.specs.declared.values.Minor.{Minor}
use Rattle.cycle.specs.declared.values.Temperatures.{Temperatures}
use Rattle.cycle.specs.declared.values.Requests.{Requests}
use Rattle.cycle.specs.declared.values.Quantities.{Quantities}
use Rattle.cycle.specs.declared.values.Major.{Major}

-- no path fault is remembered, no off slot has a jet, and the fail word has no re-enabled jet and every inhibited one
unfoldable pub calm : StringState → Bool
calm s =
    not s.lost
    && (s.off.newest == 0
    && (s.off.older == 0
    && (s.off.oldest == 0
    && s.standing.fail == bit_or (without s.standing.fail s.over.reenable) s.over.inhibit)))

-- the lowest n strings are
unfoldable pub all_calm : ℕ → List StringState → Bool
all_calm n strings = every n (λ s. calm (slice_index_or strings s past_string))

-- no mapped jet is commanded without pressure, and no valve has moved
unfoldable pub quiet : ℕ → Sample → StringState → Bool
quiet jets x s = without (bit_and jets x.commanded) x.pressure == 0 && s.standing.valves == x.valves

-- the array of each string's mapped jets
unfoldable pub mapped_words : List Masks → List ℕ
mapped_words masks = each string_count (λ s x. mapped manifold_count (masks_of masks s)) 0 (replicate string_count 0)

-- the wire cycle is that of the next number, and the kind is right
unfoldable pub follows : ℕ → ℕ → Bool → Bool
follows n wire major = nat_lt n last_count && (wire == (n + 1) % wire_span && not (wrong_kind major (n + 1)))

-- no path bit is set, and no string finds anything
unfoldable pub all_quiet : Minor → Hall → Bool
all_quiet r h =
    (r.path == 0)
    && every string_count (λ s. quiet (mapped manifold_count (masks_of h.masks s)) (sample_of r s) (string_of h s))

-- steps 5 to 8 find nothing in one string but what its temperatures say: no on slot has a jet, no mapped jet is asked for, no set close
-- bit is to be dropped, and no mapped jet is driven without a command
unfoldable pub finds_none : ℕ → Sample → Requests → OnSlots ℕ → ℕ → Bool
finds_none jets x q on close =
    (on.newest == 0)
    && (on.older == 0
    && (on.recheck == 0
    && (bit_and jets q.inhibit == 0
    && (bit_and jets q.reenable == 0
    && (bit_and close q.drop == 0 && without (bit_and jets x.driver) x.commanded == 0)))))

-- some mapped jet leaks
abbrev pub some_leak : ℕ → Temperatures → Bool
some_leak jets t = not (bit_and jets (leak_word t) == 0)

-- no path bit is set, and no string finds anything
unfoldable pub quiet_major : Major → Hall → Bool
quiet_major r h =
    (r.minor.path == 0)
    && (every string_count
    (λ s.
    finds_none (mapped manifold_count (masks_of h.masks s)) (sample_of r.minor s) (slice_index_or r.requests s no_requests)
    (string_of h s).on (string_of h s).close)
    && not (any string_count (λ s. some_leak (mapped manifold_count (masks_of h.masks s)) (slice_index_or r.temperatures s no_temperatures))))

-- step 8 of every string
unfoldable pub kept_strings : List StringState → List StringState
kept_strings strings = each string_count (λ s x. kept x) past_string strings

-- and the banks
unfoldable pub kept_all : List Quantities → Hall → Hall
kept_all q h = record {
  n = h.n;
  masks = h.masks;
  strings = kept_strings h.strings;
  banks = weighed_all module_count q h.banks;
}

-- the hall at the next number
abbrev pub onward : Hall → Hall
onward h = record { n = h.n + 1; masks = h.masks; strings = h.strings; banks = h.banks }
