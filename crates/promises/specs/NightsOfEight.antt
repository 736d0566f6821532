-- 02, order 7: nights of a string with eight manifolds, from bytes. A line: cycle, path byte, what string 0 says, and its fail word and
-- close byte in the report. Assumes nothing.
use Rattle.std.specs.Prelude.{List, [], ◌∷◌}
use Rattle.cycle.specs.Map.{no_masks}
use Rattle.cycle.specs.declared.map.Masks.{Masks}
use Rattle.promises.specs.NightHolds.{Night, feeding}
use Rattle.promises.specs.NightBytes.{at, quiet, commanding, driving, valves, dropping}

-- string 0: jets 0 to 3 on manifold 0 and jets 28 to 31 on manifold 7
abbrev pub first_and_last_map : List Masks
first_and_last_map =
    record { words = 0x0000000F ∷ 0 ∷ 0 ∷ 0 ∷ 0 ∷ 0 ∷ 0 ∷ 0xF0000000 ∷ [] } ∷ no_masks ∷ no_masks ∷ no_masks ∷ []

-- string 0: all jets, split unevenly over eight manifolds
abbrev pub eight_manifold_map : List Masks
eight_manifold_map =
    record {
      words =
          0x00000001 ∷ 0x00000006 ∷ 0x00000038 ∷ 0x000003C0 ∷ 0x00007C00 ∷ 0x001F8000 ∷ 0x00600000 ∷ 0xFF800000 ∷ [];
    }
    ∷ no_masks ∷ no_masks ∷ no_masks ∷ []

-- Manifold 7 closes and opens as manifold 0 does, as in "Jet 2 failed off, valve closes: fail word 0000000F. It opens: 00000004 (no
-- commands).": jets 2 and 30 failed off; both close at 4 and open at 5; then 7 alone at 6, and at 7 it opens and 0 closes
abbrev pub first_and_last_alike : Night
first_and_last_alike =
    feeding first_and_last_map
    (at 1 0x00 (commanding 0x40000004) 0x00000000 0x00
    ∷ at 2 0x00 (commanding 0x40000004) 0x00000000 0x00
    ∷ at 3 0x00 (commanding 0x40000004) 0x40000004 0x00
    ∷ at 4 0x00 (valves 0x7E) 0xF000000F 0x00
    ∷ at 5 0x00 (valves 0xFF) 0x40000004 0x00
    ∷ at 6 0x00 (valves 0x7F) 0xF0000004 0x00
    ∷ at 7 0x00 (valves 0xFE) 0x4000000F 0x00
    ∷ at 8 0x00 (valves 0xFF) 0x40000004 0x00
    ∷ [])

-- each of the eight closes alone, in turn, while the one before it opens; at 9 all are closed, and at 10 open
abbrev pub each_closes_in_turn : Night
each_closes_in_turn =
    feeding eight_manifold_map
    (at 1 0x00 (valves 0xFE) 0x00000001 0x00
    ∷ at 2 0x00 (valves 0xFD) 0x00000006 0x00
    ∷ at 3 0x00 (valves 0xFB) 0x00000038 0x00
    ∷ at 4 0x00 (valves 0xF7) 0x000003C0 0x00
    ∷ at 5 0x00 (valves 0xEF) 0x00007C00 0x00
    ∷ at 6 0x00 (valves 0xDF) 0x001F8000 0x00
    ∷ at 7 0x00 (valves 0xBF) 0x00600000 0x00
    ∷ at 8 0x00 (valves 0x7F) 0xFF800000 0x00
    ∷ at 9 0x00 (valves 0x00) 0xFFFFFFFF 0x00
    ∷ at 10 0x00 (valves 0xFF) 0x00000000 0x00
    ∷ [])

-- a close bit for manifold 7, by jet 31; it is dropped at 100
abbrev pub last_closes : Night
last_closes =
    feeding first_and_last_map
    (at 25 0x00 (driving 0x80000000) 0x00000000 0x00
    ∷ at 50 0x00 (driving 0x80000000) 0x80000000 0x00
    ∷ at 75 0x00 (driving 0x80000000) 0x80000000 0x80
    ∷ at 100 0x00 (dropping 0x80 quiet) 0x80000000 0x00
    ∷ [])

-- each manifold by its highest jet, bad at 25 and 50: those of 0, 2, 5 and 7 are bad at 75 too; all are at 100, 125 and 150. A drop of the
-- upper four at 175 leaves the lower four
abbrev pub each_gets_its_own : Night
each_gets_its_own =
    feeding eight_manifold_map
    (at 25 0x00 (driving 0x80504225) 0x00000000 0x00
    ∷ at 50 0x00 (driving 0x80504225) 0x80504225 0x00
    ∷ at 75 0x00 (driving 0x80100021) 0x80504225 0xA5
    ∷ at 100 0x00 (driving 0x80504225) 0x80504225 0xA5
    ∷ at 125 0x00 (driving 0x80504225) 0x80504225 0xA5
    ∷ at 150 0x00 (driving 0x80504225) 0x80504225 0xFF
    ∷ at 175 0x00 (dropping 0xF0 quiet) 0x80504225 0x0F
    ∷ [])

unfoldable pub eight_manifold_nights : List Night
eight_manifold_nights = first_and_last_alike ∷ each_closes_in_turn ∷ last_closes ∷ each_gets_its_own ∷ []
