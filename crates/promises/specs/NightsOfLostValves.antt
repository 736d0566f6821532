-- Nights of valves that move while the path is lost: 01, "One cycle of a string", step 1, "remembered valves and saved sets come back from
-- the good copy", and step 4. Map: the nights' own. A line: cycle, path byte, what string 0 says, and its fail word and close byte
-- in the report. Assumes nothing.
use Rattle.std.specs.Prelude.{List, [], ◌∷◌}
use Rattle.promises.specs.NightRecords.{night_map}
use Rattle.promises.specs.NightHolds.{Night, feeding}
use Rattle.promises.specs.NightBytes.{at, commanding, driving, valves}

-- Jet 2 is bad at 25 and 50 and failed from then on. The valve closes under the fault of 51, and that is noticed at 52, when the path is
-- good again. It closes and opens again under the fault of 54 and 55: nothing is noticed. It closes at 57 with the path good; after
-- the fault of 58 the good copy, of 50, has it open, so that it closes once more at 59
abbrev pub valve_closes_under_fault : Night
valve_closes_under_fault =
    feeding night_map
    (at 25 0x00 (driving 0x00000004) 0x00000000 0x00
    ∷ at 50 0x00 (driving 0x00000004) 0x00000004 0x00
    ∷ at 51 0x01 (valves 0xFE) 0x00000004 0x00
    ∷ at 52 0x00 (valves 0xFE) 0x0000000F 0x00
    ∷ at 53 0x00 (valves 0xFF) 0x00000004 0x00
    ∷ at 54 0x01 (valves 0xFE) 0x00000004 0x00
    ∷ at 55 0x01 (valves 0xFF) 0x00000004 0x00
    ∷ at 56 0x00 (valves 0xFF) 0x00000004 0x00
    ∷ at 57 0x00 (valves 0xFE) 0x0000000F 0x00
    ∷ at 58 0x01 (valves 0xFE) 0x0000000F 0x00
    ∷ at 59 0x00 (valves 0xFE) 0x0000000F 0x00
    ∷ at 60 0x00 (valves 0xFF) 0x00000004 0x00
    ∷ [])

-- The valve is closed when the good copy is taken at 25, and opens under the fault of 26: that is noticed at 27
abbrev pub valve_opens_under_fault : Night
valve_opens_under_fault =
    feeding night_map
    (at 24 0x00 (valves 0xFE) 0x0000000F 0x00
    ∷ at 25 0x00 (valves 0xFE) 0x0000000F 0x00
    ∷ at 26 0x01 (valves 0xFF) 0x0000000F 0x00
    ∷ at 27 0x00 (valves 0xFF) 0x00000000 0x00
    ∷ [])

-- "saved sets come back": the valve is closed at 25, when the saved set is all four jets. It opens; jet 0 fails off at 28, and the valve
-- closes with the other three saved; path fault at 30. From the good copy all four are saved again, so that it opens with none failed
abbrev pub saved_sets_come_back : Night
saved_sets_come_back =
    feeding night_map
    (at 24 0x00 (valves 0xFE) 0x0000000F 0x00
    ∷ at 25 0x00 (valves 0xFE) 0x0000000F 0x00
    ∷ at 26 0x00 (commanding 0x00000001) 0x00000000 0x00
    ∷ at 27 0x00 (commanding 0x00000001) 0x00000000 0x00
    ∷ at 28 0x00 (commanding 0x00000001) 0x00000001 0x00
    ∷ at 29 0x00 (valves 0xFE) 0x0000000F 0x00
    ∷ at 30 0x01 (valves 0xFE) 0x0000000F 0x00
    ∷ at 31 0x00 (valves 0xFE) 0x0000000F 0x00
    ∷ at 32 0x00 (valves 0xFF) 0x00000000 0x00
    ∷ [])

unfoldable pub lost_valve_nights : List Night
lost_valve_nights = valve_closes_under_fault ∷ valve_opens_under_fault ∷ saved_sets_come_back ∷ []
