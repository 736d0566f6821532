-- Nights that pin step 4 of 01, "One cycle of a string": manifolds that close and open. A line: cycle, path byte, what string 0 says, and
-- its fail word and close byte in the report. Assumes nothing.
use Rattle.std.specs.Prelude.{List, [], ◌∷◌}
use Rattle.promises.specs.NightRecords.{night_map}
use Rattle.promises.specs.NightHolds.{Night, feeding}
use Rattle.promises.specs.NightBytes.{three_manifold_map, at, commanding, valves, requesting, commanding_at, requesting_at}

-- Several manifolds move in one cycle. Jets 0 and 5 failed off; manifold 1 closes; at 5 it opens and manifold 0 closes; at 6 that opens and
-- manifold 2 closes; at 7 all are open, and the two jets are still failed
abbrev pub manifolds_move_together : Night
manifolds_move_together =
    feeding three_manifold_map
    (at 1 0x00 (commanding 0x00000021) 0x00000000 0x00
    ∷ at 2 0x00 (commanding 0x00000021) 0x00000000 0x00
    ∷ at 3 0x00 (commanding 0x00000021) 0x00000021 0x00
    ∷ at 4 0x00 (valves 0xFD) 0x000000F1 0x00
    ∷ at 5 0x00 (valves 0xFE) 0x0000002F 0x00
    ∷ at 6 0x00 (valves 0xFB) 0x00000F21 0x00
    ∷ at 7 0x00 (valves 0xFF) 0x00000021 0x00
    ∷ [])

-- "their re-enables lapse": those of the manifold that closes. Jets 0 and 4 are re-enabled; manifold 0 closes at 26 and opens at 27; both
-- jets are commanded without pressure at 26, 27 and 28: jet 0 fails, jet 4 does not
abbrev pub reenables_of_one_manifold_lapse : Night
reenables_of_one_manifold_lapse =
    feeding three_manifold_map
    (at 25 0x00 (requesting 0x00000000 0x00000011) 0x00000000 0x00
    ∷ at 26 0x00 (commanding_at 0xFE 0x00000011) 0x0000000F 0x00
    ∷ at 27 0x00 (commanding 0x00000011) 0x00000000 0x00
    ∷ at 28 0x00 (commanding 0x00000011) 0x00000001 0x00
    ∷ [])

-- "Then all inhibited jets are failed": jet 0 is inhibited while its valve is closed, and so is in the saved set; the valve opens, closes
-- and opens
abbrev pub inhibited_fail_on_opening : Night
inhibited_fail_on_opening =
    feeding night_map
    (at 24 0x00 (valves 0xFE) 0x0000000F 0x00
    ∷ at 25 0x00 (requesting_at 0xFE 0x00000001 0x00000000) 0x0000000F 0x00
    ∷ at 26 0x00 (valves 0xFF) 0x00000001 0x00
    ∷ at 27 0x00 (valves 0xFE) 0x0000000F 0x00
    ∷ at 28 0x00 (valves 0xFF) 0x00000001 0x00
    ∷ [])

-- An inhibit stays when the valve closes: jet 0 is inhibited while its valve is closed; the valve opens and closes. After the path fault of
-- 28 the saved set of 25, all four jets, comes back and leaves the fail word at 30: jet 0 is failed by its inhibit
abbrev pub inhibit_stays_on_closing : Night
inhibit_stays_on_closing =
    feeding night_map
    (at 24 0x00 (valves 0xFE) 0x0000000F 0x00
    ∷ at 25 0x00 (requesting_at 0xFE 0x00000001 0x00000000) 0x0000000F 0x00
    ∷ at 26 0x00 (valves 0xFF) 0x00000001 0x00
    ∷ at 27 0x00 (valves 0xFE) 0x0000000F 0x00
    ∷ at 28 0x01 (valves 0xFE) 0x0000000F 0x00
    ∷ at 29 0x00 (valves 0xFE) 0x0000000F 0x00
    ∷ at 30 0x00 (valves 0xFF) 0x00000001 0x00
    ∷ [])

-- Step 3 comes before step 4 and its slots shift, whatever has failed: jet 0 is commanded without pressure from 1 on, its valve being
-- closed until 3. At 4 it stands in all three slots, and leaves the fail word with the saved set; it fails at 5
abbrev pub slots_shift_while_closed : Night
slots_shift_while_closed =
    feeding night_map
    (at 1 0x00 (commanding_at 0xFE 0x00000001) 0x0000000F 0x00
    ∷ at 2 0x00 (commanding_at 0xFE 0x00000001) 0x0000000F 0x00
    ∷ at 3 0x00 (commanding_at 0xFE 0x00000001) 0x0000000F 0x00
    ∷ at 4 0x00 (commanding 0x00000001) 0x00000000 0x00
    ∷ at 5 0x00 (commanding 0x00000001) 0x00000001 0x00
    ∷ [])

unfoldable pub manifold_nights : List Night
manifold_nights =
    manifolds_move_together ∷ reenables_of_one_manifold_lapse ∷ inhibited_fail_on_opening ∷ inhibit_stays_on_closing ∷ slots_shift_while_closed ∷ []
