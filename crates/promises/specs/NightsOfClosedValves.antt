-- 02, order 8: nights in which a re-enable is asked for behind a closed valve, from bytes. Map, unless said: the nights' own, jets 0 to 3
-- on manifold 0 of string 0. A line: cycle, path byte, what string 0 says, and its fail word and close byte in the report. Assumes nothing.
use Rattle.std.specs.Prelude.{List, [], ◌∷◌, ◌++◌}
use Rattle.cycle.specs.declared.answer.Answer.TheVariants.{BothWays}
use Rattle.promises.specs.NightRecords.{night_map}
use Rattle.promises.specs.NightHolds.{Handed, Night, feeding, report_of_string}
use Rattle.promises.specs.NightBytes.{two_string_map, three_manifold_map, at, at_both, shows, quiet, commanding, valves, requesting}
use Rattle.promises.specs.NightBytes.{requesting_at, driving_at, record_bytes}

-- jet 2 fails off
abbrev pub jet2_fails_off : List Handed
jet2_fails_off =
    at 1 0x00 (commanding 0x00000004) 0x00000000 0x00
    ∷ at 2 0x00 (commanding 0x00000004) 0x00000000 0x00
    ∷ at 3 0x00 (commanding 0x00000004) 0x00000004 0x00
    ∷ []

-- The valve closes, and jets 1 and 2 are re-enabled at the next major cycle: still failed. It opens: the saved set comes back, jet 1 with
-- it and jet 2 not, as they were when the valve closed. Jet 1 fails at 28 for want of pressure: no re-enable has come in force
abbrev pub reenable_while_closed : Night
reenable_while_closed =
    feeding night_map
    (jet2_fails_off
    ++ (at 24 0x00 (valves 0xFE) 0x0000000F 0x00
    ∷ at 25 0x00 (requesting_at 0xFE 0x00000000 0x00000006) 0x0000000F 0x00
    ∷ at 26 0x00 (commanding 0x00000002) 0x00000004 0x00
    ∷ at 27 0x00 (commanding 0x00000002) 0x00000004 0x00
    ∷ at 28 0x00 (commanding 0x00000002) 0x00000006 0x00
    ∷ []))

-- Re-enable and opening in one record: done. Jets 0 and 2 are commanded without pressure then: jet 0 alone fails
abbrev pub reenable_on_opening : Night
reenable_on_opening =
    feeding night_map
    (jet2_fails_off
    ++ (at 24 0x00 (valves 0xFE) 0x0000000F 0x00
    ∷ at 25 0x00 (requesting 0x00000000 0x00000006) 0x00000000 0x00
    ∷ at 26 0x00 (commanding 0x00000005) 0x00000000 0x00
    ∷ at 27 0x00 (commanding 0x00000005) 0x00000000 0x00
    ∷ at 28 0x00 (commanding 0x00000005) 0x00000001 0x00
    ∷ []))

-- Closing and re-enable in one record: ignored. Once the valve is open, jet 2 is failed as before, and jet 1 fails at 28
abbrev pub reenable_on_closing : Night
reenable_on_closing =
    feeding night_map
    (jet2_fails_off
    ++ (at 25 0x00 (requesting_at 0xFE 0x00000000 0x00000006) 0x0000000F 0x00
    ∷ at 26 0x00 (commanding 0x00000002) 0x00000004 0x00
    ∷ at 27 0x00 (commanding 0x00000002) 0x00000004 0x00
    ∷ at 28 0x00 (commanding 0x00000002) 0x00000006 0x00
    ∷ []))

-- An inhibit is done as before, and a re-enable that is ignored does not end it: jet 0 is failed by it when the valve opens. Re-enabled at
-- 75, behind an open valve, it is good
abbrev pub inhibit_while_closed : Night
inhibit_while_closed =
    feeding night_map
    (at 24 0x00 (valves 0xFE) 0x0000000F 0x00
    ∷ at 25 0x00 (requesting_at 0xFE 0x00000001 0x00000000) 0x0000000F 0x00
    ∷ at 50 0x00 (requesting_at 0xFE 0x00000000 0x00000001) 0x0000000F 0x00
    ∷ at 51 0x00 (valves 0xFF) 0x00000001 0x00
    ∷ at 75 0x00 (requesting 0x00000000 0x00000001) 0x00000000 0x00
    ∷ at 76 0x00 quiet 0x00000000 0x00
    ∷ [])

-- Other manifolds of the string are heeded: of jets 0, 1 and 4, re-enabled in one word, jet 4 alone is on one that is open
abbrev pub other_manifold_reenabled : Night
other_manifold_reenabled =
    feeding three_manifold_map
    (at 1 0x00 (commanding 0x00000011) 0x00000000 0x00
    ∷ at 2 0x00 (commanding 0x00000011) 0x00000000 0x00
    ∷ at 3 0x00 (commanding 0x00000011) 0x00000011 0x00
    ∷ at 24 0x00 (valves 0xFE) 0x0000001F 0x00
    ∷ at 25 0x00 (requesting_at 0xFE 0x00000000 0x00000013) 0x0000000F 0x00
    ∷ at 26 0x00 (valves 0xFF) 0x00000001 0x00
    ∷ [])

-- and so are other strings: jet 4 of string 1 has failed off, and the valve of string 0 closes
abbrev pub other_string_reenabled : Night
other_string_reenabled =
    feeding two_string_map
    (at_both 1 0x00 quiet (commanding 0x00000010) (shows 0x00000000 0x00) (shows 0x00000000 0x00)
    ∷ at_both 2 0x00 quiet (commanding 0x00000010) (shows 0x00000000 0x00) (shows 0x00000000 0x00)
    ∷ at_both 3 0x00 quiet (commanding 0x00000010) (shows 0x00000000 0x00) (shows 0x00000010 0x00)
    ∷ at_both 24 0x00 (valves 0xFE) quiet (shows 0x0000000F 0x00) (shows 0x00000010 0x00)
    ∷ at_both 25 0x00 (requesting_at 0xFE 0x00000000 0x00000001) (requesting 0x00000000 0x00000010) (shows 0x0000000F 0x00)
    (shows 0x00000000 0x00)
    ∷ [])

-- Recovery from a good copy of a closed valve, and a re-enable of jet 1 in that very record: at 50 the valve is still closed, and it is
-- ignored; at 75 it is open, and it is done: jet 1 does not fail for want of pressure
abbrev pub reenable_at_recovery : Night
reenable_at_recovery =
    feeding night_map
    (at 25 0x00 (valves 0xFE) 0x0000000F 0x00
    ∷ at 49 0x01 (valves 0xFF) 0x0000000F 0x00
    ∷ at 50 0x00 (requesting_at 0xFE 0x00000000 0x00000002) 0x0000000F 0x00
    ∷ at 74 0x01 (valves 0xFE) 0x0000000F 0x00
    ∷ at 75 0x00 (requesting 0x00000000 0x00000002) 0x00000000 0x00
    ∷ at 76 0x00 (commanding 0x00000002) 0x00000000 0x00
    ∷ at 77 0x00 (commanding 0x00000002) 0x00000000 0x00
    ∷ at 78 0x00 (commanding 0x00000002) 0x00000000 0x00
    ∷ [])

-- Demand 3's "no re-enable in force" follows: the driver of jet 1 is on, and it is re-enabled at each major cycle behind the closed valve
abbrev pub close_while_closed : Night
close_while_closed =
    feeding night_map
    (at 24 0x00 (valves 0xFE) 0x0000000F 0x00
    ∷ at 25 0x00 (driving_at 0xFE 0x00000002 0x00000000 0x00000002) 0x0000000F 0x00
    ∷ at 50 0x00 (driving_at 0xFE 0x00000002 0x00000000 0x00000002) 0x0000000F 0x00
    ∷ at 75 0x00 (driving_at 0xFE 0x00000002 0x00000000 0x00000002) 0x0000000F 0x01
    ∷ [])

-- A jet named both ways behind a closed valve still gets the record answer 7, and its report shows the jets failed still
abbrev pub both_ways_while_closed : Night
both_ways_while_closed =
    feeding night_map
    (at 24 0x00 (valves 0xFE) 0x0000000F 0x00
    ∷ record {
      bytes = record_bytes 25 0x00 (requesting_at 0xFE 0x00000001 0x00000001) quiet;
      answer = BothWays;
      report = report_of_string 7 24 0x0000000F 0x00;
    }
    ∷ [])

unfoldable pub closed_valve_nights : List Night
closed_valve_nights =
    reenable_while_closed ∷ reenable_on_opening ∷ reenable_on_closing ∷ inhibit_while_closed ∷ other_manifold_reenabled ∷ other_string_reenabled
    ∷ reenable_at_recovery ∷ close_while_closed ∷ both_ways_while_closed ∷ []
