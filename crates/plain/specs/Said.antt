-- What a record says of each jet and each manifold of each string, its words opened. Assumes nothing.
use Rattle.std.specs.Prelude.{Bool, false, List, [], ℕ, ◌+◌, ◌*◌, get_or}
use Rattle.bits.specs.Bit.{bit}
use Rattle.cycle.specs.Size.{string_count, jet_count, manifold_count}
use Rattle.cycle.specs.Each.{table}
use Rattle.cycle.specs.Records.{Record, minor, major}
use Rattle.cycle.specs.Hall.{sample_of, no_temperatures, no_requests}
use Rattle.cycle.specs.declared.values.Sample.{Sample}
use Rattle.cycle.specs.declared.values.Minor.{Minor}
use Rattle.cycle.specs.declared.values.Temperatures.{Temperatures}
use Rattle.cycle.specs.declared.values.Requests.{Requests}
use Rattle.plain.specs.Jet.{place_of, past_jet}
use Rattle.plain.specs.declared.jet.Jet.{Jet}
use Rattle.plain.specs.declared.said.JetSaid.{JetSaid}
use Rattle.plain.specs.declared.said.StringSaid.{StringSaid}
use Rattle.plain.specs.declared.string.PlainString.{PlainString}

-- of jet j, which stands on manifold i, or past the last one on none: "jet j is bit j of a word"; temperatures "jet by jet, fuel word then
-- oxidizer word"
abbrev pub jet_said : Sample → Requests → Temperatures → ℕ → ℕ → JetSaid
jet_said x q t i j = record {
  commanded = bit j x.commanded;
  pressure = bit j x.pressure;
  driver = bit j x.driver;
  valve = bit i x.valves;
  inhibit = bit j q.inhibit;
  reenable = bit j q.reenable;
  fuel = get_or t.words (2 * j) 0;
  oxidizer = get_or t.words (2 * j + 1) 0;
}

-- what stands past the end of the arrays
abbrev pub nothing_said : JetSaid
nothing_said = record
    { commanded = false; pressure = false; driver = false; valve = false; inhibit = false; reenable = false; fuel = 0; oxidizer = 0 }

abbrev pub silent : StringSaid
silent = record { path = false; drops = []; jets = [] }

abbrev pub past_string : PlainString
past_string = record { jets = []; close = [] }

-- of the manifolds: bit i of the drop byte asks to drop manifold i's close bit
unfoldable pub drops_said : Requests → List Bool
drops_said q = table manifold_count (λ i. bit i q.drop)

-- of a string with these jets
unfoldable pub string_said : Bool → Sample → Requests → Temperatures → List Jet → StringSaid
string_said path x q t jets =
    record { path = path; drops = drops_said q; jets = table jet_count (λ j. jet_said x q t (place_of (get_or jets j past_jet).place) j) }

-- of every string; "bit s set: the data path of string s has failed"
unfoldable pub opened : Minor → List Temperatures → List Requests → List PlainString → List StringSaid
opened r t q strings =
    table string_count
    (λ s.
    string_said (bit s r.path) (sample_of r s) (get_or q s no_requests) (get_or t s no_temperatures) (get_or strings s past_string).jets)

-- a minor record says nothing of requests and temperatures: they stand as 0, and only major cycles look at them
abbrev pub opened_record : Record → List PlainString → List StringSaid
opened_record (minor r) strings = opened r [] [] strings
opened_record (major r) strings = opened r.minor r.temperatures r.requests strings
