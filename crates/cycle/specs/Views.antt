-- What one jet sees: its own bit of the packed words, and its own values of a record. Jet j of string s stands on manifold i. And what a
-- record says of a manifold. Assumes nothing.
use Rattle.std.specs.Prelude.{ℕ, ◌+◌, ◌*◌, Bool, slice_index, slice_index_or}
use Rattle.bits.specs.Bit.{bit}
use Rattle.cycle.specs.Jets.{JetRecord}
use Rattle.cycle.specs.Records.{Record, minor, major}
use Rattle.cycle.specs.Hall.{sample_of, no_temperatures, no_requests}
use Rattle.cycle.specs.declared.jet.JetStanding.{JetStanding}
use Rattle.cycle.specs.declared.jet.JetState.{JetState}
use Rattle.cycle.specs.declared.string.Standing.{Standing}
use Rattle.cycle.specs.declared.string.StringState.{StringState}
use Rattle.cycle.specs.declared.values.Sample.{Sample}
use Rattle.cycle.specs.declared.values.Temperatures.{Temperatures}
use Rattle.cycle.specs.declared.values.Requests.{Requests}

-- ---- of what is remembered

abbrev pub jet_standing : ℕ → ℕ → Standing → JetStanding
jet_standing i j t = record { fail = bit j t.fail; valve = bit i t.valves; saved = bit j (slice_index t.saved i) }

abbrev pub jet_of : ℕ → ℕ → StringState → JetState
jet_of i j s = record {
  standing = jet_standing i j s.standing;
  good = jet_standing i j s.good;
  off = record { newest = bit j s.off.newest; older = bit j s.off.older; oldest = bit j s.off.oldest };
  on = record { newest = bit j s.on.newest; older = bit j s.on.older; recheck = bit j s.on.recheck };
  over = record { inhibit = bit j s.over.inhibit; reenable = bit j s.over.reenable };
  lost = s.lost;
}

-- ---- of a record that leads to the cycle number n

abbrev pub jet_says : ℕ → Bool → ℕ → ℕ → Sample → Requests → Temperatures → JetRecord
jet_says n path i j x q t = record {
  n = n;
  path = path;
  commanded = bit j x.commanded;
  pressure = bit j x.pressure;
  driver = bit j x.driver;
  valve = bit i x.valves;
  inhibit = bit j q.inhibit;
  reenable = bit j q.reenable;
  drop = bit i q.drop;
  fuel = slice_index t.words (2 * j);
  oxidizer = slice_index t.words (2 * j + 1);
}

-- a minor record says nothing of requests and temperatures: they stand as 0, and only major cycles look at them
abbrev pub jet_record : ℕ → ℕ → ℕ → ℕ → Record → JetRecord
jet_record n s i j (minor r) = jet_says n (bit s r.path) i j (sample_of r s) no_requests no_temperatures
jet_record n s i j (major r) =
    jet_says n (bit s r.minor.path) i j (sample_of r.minor s) (slice_index_or r.requests s no_requests)
    (slice_index_or r.temperatures s no_temperatures)

-- ---- of a manifold

-- string s's drop byte; a minor record has none
abbrev pub drop_byte : ℕ → Record → ℕ
drop_byte s (minor r) = 0
drop_byte s (major r) = (slice_index_or r.requests s no_requests).drop
