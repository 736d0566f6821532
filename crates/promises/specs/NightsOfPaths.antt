-- Nights that pin steps 1 and 8 of 01, "One cycle of a string": path faults, what comes back from the good copy and what stays. A line:
-- cycle, path byte, what string 0 says, and its fail word and close byte in the report; `at_both`: the same of strings 0 and 1.
-- Assumes nothing.
use Rattle.std.specs.Prelude.{List, [], ◌∷◌}
use Rattle.promises.specs.NightRecords.{night_map}
use Rattle.promises.specs.NightHolds.{Night, feeding}
use Rattle.promises.specs.NightBytes.{two_string_map, at, at_both, shows, quiet, commanding, driving, valves, requesting}
use Rattle.promises.specs.NightBytes.{three_manifold_map, commanding_at, driving_at}

-- 8. "(000 takes it before step 5; here it is last.)" Jet 1 failed off and is re-enabled at 25; its valve closes at 26, which ends the
-- re-enable; path fault at 27. At 28 the fail word of 25 comes back as it was after the requests, without jet 1. The re-enable does
-- not come back: jet 1 fails at 30
abbrev pub good_copy_after_requests : Night
good_copy_after_requests =
    feeding night_map
    (at 1 0x00 (commanding 0x00000002) 0x00000000 0x00
    ∷ at 2 0x00 (commanding 0x00000002) 0x00000000 0x00
    ∷ at 3 0x00 (commanding 0x00000002) 0x00000002 0x00
    ∷ at 25 0x00 (requesting 0x00000000 0x00000002) 0x00000000 0x00
    ∷ at 26 0x00 (valves 0xFE) 0x0000000F 0x00
    ∷ at 27 0x01 quiet 0x0000000F 0x00
    ∷ at 28 0x00 (commanding 0x00000002) 0x00000000 0x00
    ∷ at 29 0x00 (commanding 0x00000002) 0x00000000 0x00
    ∷ at 30 0x00 (commanding 0x00000002) 0x00000002 0x00
    ∷ [])

-- 8. after step 7 too: jet 1 joins the fail word at 50, and is in what comes back at 52. Only a major takes the copy: jet 0 failed off at
-- 55, and is not in what comes back at 57
abbrev pub good_copy_after_on_failure : Night
good_copy_after_on_failure =
    feeding night_map
    (at 25 0x00 (driving 0x00000002) 0x00000000 0x00
    ∷ at 50 0x00 (driving 0x00000002) 0x00000002 0x00
    ∷ at 51 0x01 quiet 0x00000002 0x00
    ∷ at 52 0x00 quiet 0x00000002 0x00
    ∷ at 53 0x00 (commanding 0x00000001) 0x00000002 0x00
    ∷ at 54 0x00 (commanding 0x00000001) 0x00000002 0x00
    ∷ at 55 0x00 (commanding 0x00000001) 0x00000003 0x00
    ∷ at 56 0x01 quiet 0x00000003 0x00
    ∷ at 57 0x00 quiet 0x00000002 0x00
    ∷ [])

-- 1. "the data path of string s": both strings lose their path at 4; string 0 recovers at 5, and string 1 at 8 without touching what
-- string 0 has failed since
abbrev pub one_string_recovers : Night
one_string_recovers =
    feeding two_string_map
    (at_both 1 0x00 (commanding 0x00000001) (commanding 0x00000010) (shows 0x00000000 0x00) (shows 0x00000000 0x00)
    ∷ at_both 2 0x00 (commanding 0x00000001) (commanding 0x00000010) (shows 0x00000000 0x00) (shows 0x00000000 0x00)
    ∷ at_both 3 0x00 (commanding 0x00000001) (commanding 0x00000010) (shows 0x00000001 0x00) (shows 0x00000010 0x00)
    ∷ at_both 4 0x03 quiet quiet (shows 0x00000001 0x00) (shows 0x00000010 0x00)
    ∷ at_both 5 0x02 (commanding 0x00000001) quiet (shows 0x00000000 0x00) (shows 0x00000010 0x00)
    ∷ at_both 6 0x02 (commanding 0x00000001) quiet (shows 0x00000000 0x00) (shows 0x00000010 0x00)
    ∷ at_both 7 0x02 (commanding 0x00000001) quiet (shows 0x00000001 0x00) (shows 0x00000010 0x00)
    ∷ at_both 8 0x00 quiet quiet (shows 0x00000001 0x00) (shows 0x00000000 0x00)
    ∷ [])

-- 1. "overrides and close byte stay": jet 1 is bad at 25, 50 and 75, which sets the close bit. Its manifold's valve has been closed since
-- 74; at 75 jet 3 is inhibited, and jet 4, of another manifold, re-enabled; path fault at 76. The valve opens at 78: jet 3, of the saved
-- set, is failed by its inhibit; jet 4 is commanded without pressure at 77, 78 and 79 and does not fail
abbrev pub overrides_stay_over_fault : Night
overrides_stay_over_fault =
    feeding three_manifold_map
    (at 25 0x00 (driving 0x00000002) 0x00000000 0x00
    ∷ at 50 0x00 (driving 0x00000002) 0x00000002 0x00
    ∷ at 74 0x00 (valves 0xFE) 0x0000000F 0x00
    ∷ at 75 0x00 (driving_at 0xFE 0x00000002 0x00000008 0x00000010) 0x0000000F 0x01
    ∷ at 76 0x01 quiet 0x0000000F 0x01
    ∷ at 77 0x00 (commanding_at 0xFE 0x00000010) 0x0000000F 0x01
    ∷ at 78 0x00 (commanding 0x00000010) 0x0000000A 0x01
    ∷ at 79 0x00 (commanding 0x00000010) 0x0000000A 0x01
    ∷ [])

-- 1. "nothing else of the string changes and its requests are lost": those of string 0 at 25 and 75, then and later; those of string 1 in
-- the same records are carried out
abbrev pub requests_lost_under_fault : Night
requests_lost_under_fault =
    feeding two_string_map
    (at_both 25 0x01 (requesting 0x00000001 0x00000000) (requesting 0x00000010 0x00000000) (shows 0x00000000 0x00) (shows 0x00000010 0x00)
    ∷ at_both 26 0x00 quiet quiet (shows 0x00000000 0x00) (shows 0x00000010 0x00)
    ∷ at_both 50 0x00 (requesting 0x00000002 0x00000000) quiet (shows 0x00000002 0x00) (shows 0x00000010 0x00)
    ∷ at_both 75 0x01 (requesting 0x00000001 0x00000002) (requesting 0x00000000 0x00000010) (shows 0x00000002 0x00) (shows 0x00000000 0x00)
    ∷ at_both 76 0x00 quiet quiet (shows 0x00000002 0x00) (shows 0x00000000 0x00)
    ∷ at_both 100 0x00 quiet quiet (shows 0x00000002 0x00) (shows 0x00000000 0x00)
    ∷ [])

-- 1. "nothing else of the string changes", 8: the good copy is not taken under a fault: jet 0 failed off at 3, and the major of 25 comes
-- with the path bit set. At 26 the fail word of before comes back, without jet 0
abbrev pub no_copy_under_fault : Night
no_copy_under_fault =
    feeding night_map
    (at 1 0x00 (commanding 0x00000001) 0x00000000 0x00
    ∷ at 2 0x00 (commanding 0x00000001) 0x00000000 0x00
    ∷ at 3 0x00 (commanding 0x00000001) 0x00000001 0x00
    ∷ at 25 0x01 quiet 0x00000001 0x00
    ∷ at 26 0x00 quiet 0x00000000 0x00
    ∷ [])

-- 1. "off slots, on slots and recheck word become 0": jet 0 is commanded without pressure from 1 on, with a path fault at 3: it fails at 6,
-- not at 4 or 5. Jet 1 is bad at 25, 50 and 75, with a fault at 26: it fails at 75, not at 50. With a fault at 76 it is not rechecked
-- at 100
abbrev pub slots_empty_after_fault : Night
slots_empty_after_fault =
    feeding night_map
    (at 1 0x00 (commanding 0x00000001) 0x00000000 0x00
    ∷ at 2 0x00 (commanding 0x00000001) 0x00000000 0x00
    ∷ at 3 0x01 (commanding 0x00000001) 0x00000000 0x00
    ∷ at 4 0x00 (commanding 0x00000001) 0x00000000 0x00
    ∷ at 5 0x00 (commanding 0x00000001) 0x00000000 0x00
    ∷ at 6 0x00 (commanding 0x00000001) 0x00000001 0x00
    ∷ at 25 0x00 (driving 0x00000002) 0x00000001 0x00
    ∷ at 26 0x01 quiet 0x00000001 0x00
    ∷ at 27 0x00 quiet 0x00000001 0x00
    ∷ at 50 0x00 (driving 0x00000002) 0x00000001 0x00
    ∷ at 75 0x00 (driving 0x00000002) 0x00000003 0x00
    ∷ at 76 0x01 quiet 0x00000003 0x00
    ∷ at 77 0x00 quiet 0x00000003 0x00
    ∷ at 100 0x00 (driving 0x00000002) 0x00000003 0x00
    ∷ [])

unfoldable pub path_nights : List Night
path_nights =
    good_copy_after_requests ∷ good_copy_after_on_failure ∷ one_string_recovers ∷ overrides_stay_over_fault ∷ requests_lost_under_fault
    ∷ no_copy_under_fault ∷ slots_empty_after_fault ∷ []
