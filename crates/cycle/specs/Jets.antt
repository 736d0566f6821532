-- One cycle of a string, jet by jet, with yes and no values: 01, "One cycle of a string", in its words and its order. A jet has one
-- manifold; its rule reads its own inputs, its manifold's valve, its string's path, the gap, and what is remembered of it. Assumes nothing.
use Rattle.std.specs.Prelude.{ℕ, Bool, true, false, cond, not, ◌&&◌, ◌||◌, List, [], ◌∷◌}
use Rattle.cycle.specs.Numbers.{is_major, missed_cycle, missed_major}
use Rattle.cycle.specs.Leak.{leaks}
use Rattle.cycle.specs.declared.jet.JetStanding.{JetStanding}
use Rattle.cycle.specs.declared.slots.OffSlots.{OffSlots}
use Rattle.cycle.specs.declared.slots.OnSlots.{OnSlots}
use Rattle.cycle.specs.declared.slots.Overrides.{Overrides}
use Rattle.cycle.specs.declared.jet.JetState.{JetState}

-- What a taken record says of one jet: the cycle number it leads to, its string's path bit, the jet's commanded, pressure and driver bits
-- and whether its manifold's valve is open; in a major cycle also the requests that name it or its manifold, and its temperature words.
pub record JetRecord : Type 0 where
  pub n : ℕ
  pub path : Bool
  pub commanded : Bool
  pub pressure : Bool
  pub driver : Bool
  pub valve : Bool
  pub inhibit : Bool
  pub reenable : Bool
  pub drop : Bool
  pub fuel : ℕ
  pub oxidizer : ℕ

-- the same with another drop
abbrev pub with_drop : Bool → JetRecord → JetRecord
with_drop drop r = record {
  n = r.n;
  path = r.path;
  commanded = r.commanded;
  pressure = r.pressure;
  driver = r.driver;
  valve = r.valve;
  inhibit = r.inhibit;
  reenable = r.reenable;
  drop = drop;
  fuel = r.fuel;
  oxidizer = r.oxidizer;
}

-- the same with another re-enable
abbrev pub with_reenable : Bool → JetRecord → JetRecord
with_reenable reenable r = record {
  n = r.n;
  path = r.path;
  commanded = r.commanded;
  pressure = r.pressure;
  driver = r.driver;
  valve = r.valve;
  inhibit = r.inhibit;
  reenable = reenable;
  drop = r.drop;
  fuel = r.fuel;
  oxidizer = r.oxidizer;
}

-- the state with one group written anew
abbrev pub with_standing : JetStanding → JetState → JetState
with_standing x s = record { standing = x; good = s.good; off = s.off; on = s.on; over = s.over; lost = s.lost }

abbrev pub with_good : JetStanding → JetState → JetState
with_good x s = record { standing = s.standing; good = x; off = s.off; on = s.on; over = s.over; lost = s.lost }

abbrev pub with_off : OffSlots Bool → JetState → JetState
with_off x s = record { standing = s.standing; good = s.good; off = x; on = s.on; over = s.over; lost = s.lost }

abbrev pub with_on : OnSlots Bool → JetState → JetState
with_on x s = record { standing = s.standing; good = s.good; off = s.off; on = x; over = s.over; lost = s.lost }

abbrev pub with_over : Overrides Bool → JetState → JetState
with_over x s = record { standing = s.standing; good = s.good; off = s.off; on = s.on; over = x; lost = s.lost }

abbrev pub with_lost : Bool → JetState → JetState
with_lost x s = record { standing = s.standing; good = s.good; off = s.off; on = s.on; over = s.over; lost = x }

abbrev pub with_fail : Bool → JetState → JetState
with_fail x s = with_standing (record { fail = x; valve = s.standing.valve; saved = s.standing.saved }) s

abbrev pub no_off : OffSlots Bool
no_off = record { newest = false; older = false; oldest = false }

abbrev pub no_on : OnSlots Bool
no_on = record { newest = false; older = false; recheck = false }

-- "Fresh: every word 0, no path fault remembered, .. good copy the same." 02, order 7: "At fresh all eight are remembered as open."
abbrev pub fresh_standing : JetStanding
fresh_standing = record { fail = false; valve = true; saved = false }

abbrev pub fresh_jet : JetState
fresh_jet = record {
  standing = fresh_standing;
  good = fresh_standing;
  off = no_off;
  on = no_on;
  over = record { inhibit = false; reenable = false };
  lost = false;
}

-- 1. Path (000, 1.3.4.2): "If the path bit is set, remember that; nothing else of the string changes and its requests are lost."
unfoldable pub path_lost : JetState → JetState
path_lost s = with_lost true s

-- 1. "At the first taken record with the bit clear again: fail word, remembered valves and saved sets come back from the good copy;
-- off slots, on slots and recheck word become 0; overrides and close byte stay. Then go on."
unfoldable pub recovered : JetState → JetState
recovered s = cond s.lost (with_lost false (with_on no_on (with_off no_off (with_standing s.good s)))) s

-- 2. Gap: "If d exceeds 1, the off slots become 0."
abbrev pub off_cleared : Bool → JetState → JetState
off_cleared gap s = cond gap (with_off no_off s) s

-- 2. "If a multiple of 25 lies strictly between the old n and the new, the on slots and recheck word become 0 too."
abbrev pub on_cleared : Bool → JetState → JetState
on_cleared missed s = cond missed (with_on no_on s) s

unfoldable pub gapped : Bool → Bool → JetState → JetState
gapped gap missed s = on_cleared missed (off_cleared gap s)

-- 3. Off failure (000, 2.2.4): "Three slots shift; the newest is 'C and not P'."
abbrev pub off_shifted : Bool → Bool → OffSlots Bool → OffSlots Bool
off_shifted commanded pressure x = record { newest = commanded && not pressure; older = x.newest; oldest = x.older }

-- 3. "Fail gains the jets that stand in all three, then loses every jet whose re-enable is in force."
abbrev pub off_fails : OffSlots Bool → JetState → Bool
off_fails x s = (s.standing.fail || (x.newest && x.older && x.oldest)) && not s.over.reenable

unfoldable pub off_failure : Bool → Bool → JetState → JetState
off_failure commanded pressure s =
    let x = off_shifted commanded pressure s.off in
    with_off x (with_fail (off_fails x s) s)

-- 4. Manifolds (2.2.7). "Remembered open, now closed: the saved set is the manifold's jets not failed; all its jets fail; their
-- re-enables lapse."
abbrev pub valve_closes : JetState → JetState
valve_closes s =
    with_over (record { inhibit = s.over.inhibit; reenable = false })
    (with_standing (record { fail = true; valve = s.standing.valve; saved = not s.standing.fail }) s)

-- 4. "Remembered closed, now open: the saved set leaves the fail word."
abbrev pub valve_opens : JetState → JetState
valve_opens s = with_fail (s.standing.fail && not s.standing.saved) s

unfoldable pub valve_moved : Bool → Bool → JetState → JetState
valve_moved true true s = s
valve_moved true false s = valve_closes s
valve_moved false true s = valve_opens s
valve_moved false false s = s

-- 4. "Then all inhibited jets are failed and V is remembered."
unfoldable pub remembered : Bool → JetState → JetState
remembered now s =
    with_standing (record { fail = s.standing.fail || s.over.inhibit; valve = now; saved = s.standing.saved }) s

abbrev pub manifold_step : Bool → JetState → JetState
manifold_step now s = remembered now (valve_moved s.standing.valve now s)

-- 5. Requests (1.3.4.3): "Inhibit: the inhibit comes in force, re-enable lapses, the jet fails. Re-enable: the reverse, and the jet
-- leaves the fail word." 02, order 8: "Step 5 now ignores a re-enable for a jet on a manifold remembered as closed." No taken record names
-- a mapped jet both ways (02, order 4); if the step is handed one, the inhibit decides.
abbrev pub inhibited : JetState → JetState
inhibited s = with_over (record { inhibit = true; reenable = false }) (with_fail true s)

abbrev pub reenabled : JetState → JetState
reenabled s = with_over (record { inhibit = false; reenable = true }) (with_fail false s)

unfoldable pub requested : Bool → Bool → JetState → JetState
requested true reenable s = inhibited s
requested false true s = cond s.standing.valve (reenabled s) s
requested false false s = s

-- 5. 02, order 6: "bit i asks to drop manifold i's close bit", "lost under a path fault as other requests are": is it carried out, at a
-- record that leads to the cycle number n? It changes nothing of a jet.
abbrev pub drop_done : Bool → ℕ → Bool → Bool
drop_done path n drop = not path && is_major n && drop

abbrev pub drops_at : JetRecord → Bool
drops_at r = drop_done r.path r.n r.drop

-- 6. Recheck (1.3.4.6): "A jet is bad if it is not commanded and one of two holds: its driver is on, or it leaks. A commanded jet is
-- never bad."
unfoldable pub is_bad : JetRecord → Bool
is_bad r = not r.commanded && (r.driver || leaks r.fuel r.oxidizer)

-- 6. "Each manifold with a jet in the recheck word that is bad and not re-enabled gets its close bit": the jet asks for it
abbrev pub asks : Bool → JetState → Bool
asks bad s = s.on.recheck && bad && not s.over.reenable

-- 7. On failure (2.2.5): "Two slots shift, the newest is the bad jets. Jets in both, not re-enabled, join the fail word and are the new
-- recheck word."
abbrev pub on_shifted : Bool → JetState → OnSlots Bool
on_shifted bad s = record { newest = bad; older = s.on.newest; recheck = bad && s.on.newest && not s.over.reenable }

unfoldable pub on_failure : Bool → JetState → JetState
on_failure bad s =
    let x = on_shifted bad s in
    with_on x (with_fail (s.standing.fail || x.recheck) s)

-- 8. "The good copy is taken: fail word, remembered valves, saved sets. (000 takes it before step 5; here it is last.)"
unfoldable pub kept : JetState → JetState
kept s = with_good s.standing s

-- steps 1 to 4, the path bit being clear
unfoldable pub minor_steps : ℕ → JetRecord → JetState → JetState
minor_steps old r s =
    manifold_step r.valve
    (off_failure r.commanded r.pressure (gapped (missed_cycle old r.n) (missed_major old r.n) (recovered s)))

-- steps 1 to 5: "In a major cycle also"; what steps 6 and 7 look at
abbrev pub after_requests : ℕ → JetRecord → JetState → JetState
after_requests old r s = requested r.inhibit r.reenable (minor_steps old r s)

-- steps 1 to 8; step 6 changes nothing of the jet
unfoldable pub major_steps : ℕ → JetRecord → JetState → JetState
major_steps old r s = kept (on_failure (is_bad r) (after_requests old r s))

-- a taken record's whole cycle, the cycle number having been `old`
unfoldable pub cycle : ℕ → JetRecord → JetState → JetState
cycle old r s = cond r.path (path_lost s) (cond (is_major r.n) (major_steps old r s) (minor_steps old r s))

-- does the jet ask for its manifold's close bit at this record: in a major cycle, its path good, after step 5
unfoldable pub asks_at : ℕ → JetRecord → JetState → Bool
asks_at old r s = not r.path && is_major r.n && asks (is_bad r) (after_requests old r s)

-- ---- over a history: the records taken so far, the newest first

-- what records say of the jet, each by `says`
abbrev pub history_by : {A : Type 0} → (A → JetRecord) → List A → List JetRecord
history_by says [] = []
history_by says (t ∷ ts) = says t ∷ history_by says ts

-- the cycle number that the newest of them led to, "0 when fresh"
abbrev pub newest_of : {A : Type 0} → (A → ℕ) → List A → ℕ
newest_of number [] = 0
newest_of number (t ∷ ts) = number t

-- the cycle number reached
abbrev pub reached : List JetRecord → ℕ
reached h = newest_of (λ (r : JetRecord). r.n) h

-- the jet after the history, from fresh
unfoldable pub run : List JetRecord → JetState
run [] = fresh_jet
run (r ∷ h) = cycle (reached h) r (run h)

-- Has it asked for the close bit since the last drop carried out, or since fresh? 02, order 6: "Dropping happens in step 5, so step 6 of
-- the same cycle may set the bit again".
unfoldable pub asked_since_drop : List JetRecord → Bool
asked_since_drop [] = false
asked_since_drop (r ∷ h) = (asked_since_drop h && not (drops_at r)) || asks_at (reached h) r (run h)
