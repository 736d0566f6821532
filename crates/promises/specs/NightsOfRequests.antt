-- Nights that pin steps 3 and 5 of 01, "One cycle of a string": re-enables in force, and requests. Map: the nights' own. A line: cycle,
-- path byte, what string 0 says, and its fail word and close byte in the report. Assumes nothing.
use Rattle.std.specs.Prelude.{List, [], ◌∷◌}
use Rattle.promises.specs.NightRecords.{night_map}
use Rattle.promises.specs.NightHolds.{Night, feeding}
use Rattle.promises.specs.NightBytes.{at, quiet, commanding, requesting, commanding_at, driving_at}

-- 3. "Three slots shift; .. Fail gains the jets that stand in all three, then loses every jet whose re-enable is in force." Jets 0 and 1
-- are commanded without pressure from 26 on, and jet 0 is re-enabled: jet 1 alone fails at 28. The valve closes at 29, which ends the
-- re-enable, and opens: jet 0 fails at 31, standing in the slots of 29, 30 and 31, the first of them shifted in under the re-enable
abbrev pub reenable_at_off_failure : Night
reenable_at_off_failure =
    feeding night_map
    (at 25 0x00 (requesting 0x00000000 0x00000001) 0x00000000 0x00
    ∷ at 26 0x00 (commanding 0x00000003) 0x00000000 0x00
    ∷ at 27 0x00 (commanding 0x00000003) 0x00000000 0x00
    ∷ at 28 0x00 (commanding 0x00000003) 0x00000002 0x00
    ∷ at 29 0x00 (commanding_at 0xFE 0x00000003) 0x0000000F 0x00
    ∷ at 30 0x00 (commanding 0x00000003) 0x00000002 0x00
    ∷ at 31 0x00 (commanding 0x00000003) 0x00000003 0x00
    ∷ [])

-- 5. "Inhibit: the inhibit comes in force, re-enable lapses, the jet fails. Re-enable: the reverse, and the jet leaves the fail word."
-- Jets 0 and 1 are inhibited and stay failed; jet 0 is re-enabled and stays good; then jet 0 is inhibited again and jet 1 re-enabled,
-- which does not fail for want of pressure
abbrev pub requests_one_way : Night
requests_one_way =
    feeding night_map
    (at 25 0x00 (requesting 0x00000003 0x00000000) 0x00000003 0x00
    ∷ at 26 0x00 quiet 0x00000003 0x00
    ∷ at 50 0x00 (requesting 0x00000000 0x00000001) 0x00000002 0x00
    ∷ at 51 0x00 quiet 0x00000002 0x00
    ∷ at 75 0x00 (requesting 0x00000001 0x00000002) 0x00000001 0x00
    ∷ at 76 0x00 (commanding 0x00000002) 0x00000001 0x00
    ∷ at 77 0x00 (commanding 0x00000002) 0x00000001 0x00
    ∷ at 78 0x00 (commanding 0x00000002) 0x00000001 0x00
    ∷ [])

-- 5. "re-enable lapses", seen by steps 6 and 7, which pass over re-enabled jets: the driver of jet 0 is on at every major. It is re-enabled
-- at 25 and inhibited at 50: it is rechecked at 75 and asks for the close bit. Re-enabled at 100 it leaves the fail word and does not
-- join it again; the close bit stays
abbrev pub inhibit_ends_reenable : Night
inhibit_ends_reenable =
    feeding night_map
    (at 25 0x00 (driving_at 0xFF 0x00000001 0x00000000 0x00000001) 0x00000000 0x00
    ∷ at 50 0x00 (driving_at 0xFF 0x00000001 0x00000001 0x00000000) 0x00000001 0x00
    ∷ at 75 0x00 (driving_at 0xFF 0x00000001 0x00000000 0x00000000) 0x00000001 0x01
    ∷ at 100 0x00 (driving_at 0xFF 0x00000001 0x00000000 0x00000001) 0x00000000 0x01
    ∷ at 125 0x00 (driving_at 0xFF 0x00000001 0x00000000 0x00000000) 0x00000000 0x01
    ∷ [])

unfoldable pub request_nights : List Night
request_nights = reenable_at_off_failure ∷ requests_one_way ∷ inhibit_ends_reenable ∷ []
