-- Nights that pin what 01, "One cycle of a string", says of a jet's own values: steps 3 and 6. A line: cycle, path byte, what string 0
-- says, and its fail word and close byte in the report. Assumes nothing.
use Rattle.std.specs.Prelude.{List, [], ◌∷◌}
use Rattle.promises.specs.NightRecords.{night_map}
use Rattle.promises.specs.NightHolds.{Night, feeding}
use Rattle.promises.specs.NightBytes.{three_manifold_map, at, firing}

-- 3. "the newest is 'C and not P'": jets 0 and 1 are commanded, and jet 0 has pressure
abbrev pub pressure_keeps_good : Night
pressure_keeps_good =
    feeding night_map
    (at 1 0x00 (firing 0x00000003 0x00000001 0x00000000) 0x00000000 0x00
    ∷ at 2 0x00 (firing 0x00000003 0x00000001 0x00000000) 0x00000000 0x00
    ∷ at 3 0x00 (firing 0x00000003 0x00000001 0x00000000) 0x00000002 0x00
    ∷ [])

-- 6. "A commanded jet is never bad": the drivers of jets 0 and 4 are on, and jet 0 is commanded and has pressure
abbrev pub commanded_never_bad : Night
commanded_never_bad =
    feeding three_manifold_map
    (at 25 0x00 (firing 0x00000001 0x00000001 0x00000011) 0x00000000 0x00
    ∷ at 50 0x00 (firing 0x00000001 0x00000001 0x00000011) 0x00000010 0x00
    ∷ at 75 0x00 (firing 0x00000001 0x00000001 0x00000011) 0x00000010 0x02
    ∷ [])

unfoldable pub jet_nights : List Night
jet_nights = pressure_keeps_good ∷ commanded_never_bad ∷ []
