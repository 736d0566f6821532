-- The plain engine's jet, and the rules of one jet (cycle's Jets) that its methods are. Assumes nothing.
use Rattle.std.specs.Prelude.{Bool, false, cond, ℕ, ltb, Option, None, unwrap_or}
use Rattle.cycle.specs.Size.{manifold_count}
use Rattle.cycle.specs.Jets.{JetRecord, fresh_jet, no_off, no_on, recovered, gapped, off_failure, manifold_step}
use Rattle.cycle.specs.declared.jet.JetStanding.{JetStanding}
use Rattle.cycle.specs.declared.jet.JetState.{JetState}
use Rattle.plain.specs.declared.jet.Jet.{Jet}
use Rattle.plain.specs.declared.said.JetSaid.{JetSaid}

-- the number of the manifold that it stands on; as many as there are manifolds, or more: none
abbrev pub place_of : Option ℕ → ℕ
place_of p = unwrap_or p manifold_count

-- what is remembered of it
abbrev pub state_of : Jet → JetState
state_of x = record { standing = x.standing; good = x.good; off = x.off; on = x.on; over = x.over; lost = x.lost }

-- the jet at its place, with this remembered of it
abbrev pub with_state : Option ℕ → JetState → Jet
with_state p s = record { place = p; standing = s.standing; good = s.good; off = s.off; on = s.on; over = s.over; lost = s.lost }

-- the jet by a rule: its place stays
abbrev pub by : (JetState → JetState) → Jet → Jet
by rule x = with_state x.place (rule (state_of x))

abbrev pub fresh_on : Option ℕ → Jet
fresh_on p = with_state p fresh_jet

-- what stands past the end of an array of jets
abbrev pub no_standing : JetStanding
no_standing = record { fail = false; valve = false; saved = false }

abbrev pub past_jet : Jet
past_jet = record {
  place = None;
  standing = no_standing;
  good = no_standing;
  off = no_off;
  on = no_on;
  over = record { inhibit = false; reenable = false };
  lost = false;
}

-- what a record says of the jet, in the rules' form: with the cycle number that it leads to, its string's path bit and its manifold's drop
-- bit
abbrev pub record_of : ℕ → Bool → Bool → JetSaid → JetRecord
record_of n path drop x = record {
  n = n;
  path = path;
  commanded = x.commanded;
  pressure = x.pressure;
  driver = x.driver;
  valve = x.valve;
  inhibit = x.inhibit;
  reenable = x.reenable;
  drop = drop;
  fuel = x.fuel;
  oxidizer = x.oxidizer;
}

-- steps 1 to 4, the path bit being clear; gap: "d exceeds 1", missed: "a multiple of 25 lies strictly between the old n and the new"
abbrev pub minor_rules : Bool → Bool → JetSaid → JetState → JetState
minor_rules gap missed x s = manifold_step x.valve (off_failure x.commanded x.pressure (gapped gap missed (recovered s)))

-- "Bits and temperatures of jets in no mask are ignored everywhere": such a jet is what it was before
abbrev pub mapped_jet : Jet → Bool
mapped_jet x = ltb (place_of x.place) manifold_count

abbrev pub if_mapped : Jet → Jet → Jet
if_mapped before x = cond (mapped_jet before) x before
