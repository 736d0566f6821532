-- 02, order 6: nights in which a close bit is dropped, from bytes. Map, unless said: the nights' own, jets 0 to 3 on manifold 0 of string
-- 0. Assumes nothing.
use Rattle.std.specs.Prelude.{List, [], ◌∷◌, ◌++◌, map}
use Rattle.cycle.specs.declared.answer.Answer.TheVariants.{BothWays}
use Rattle.promises.specs.NightRecords.{night_map}
use Rattle.promises.specs.NightHolds.{Handed, Night, feeding, report_of_string, cycles}
use Rattle.promises.specs.NightBytes.{at, at_both, shows, quiet, driving, requesting, dropping, record_bytes}
use Rattle.promises.specs.NightBytes.{two_string_map, three_manifold_map}
use Rattle.promises.specs.NightsOfBothWays.{stuck_at}

-- ---- through every cycle: jet 1 is bad at 25, 50 and 75, close bit at 75, and a drop at 100

-- the jet is good by then: the bit is gone at 100
abbrev pub repaired : Night
repaired =
    feeding night_map
    (map (stuck_at 75) (cycles 1 99)
    ++ (at 100 0x00 (dropping 0x01 quiet) 0x00000002 0x00 ∷ at 101 0x00 quiet 0x00000002 0x00 ∷ []))

-- the jet is still bad: "step 6 of the same cycle may set the bit again", and "the three bad major cycles may reach back before the drop"
abbrev pub not_repaired : Night
not_repaired =
    feeding night_map
    (map (stuck_at 75) (cycles 1 99)
    ++ (at 100 0x00 (dropping 0x01 (driving 0x00000002)) 0x00000002 0x01 ∷ at 101 0x00 quiet 0x00000002 0x01 ∷ []))

unfoldable pub repair_nights : List Night
repair_nights = repaired ∷ not_repaired ∷ []

-- ---- by major records alone, each taken

-- jet 1 is bad at 25, 50 and 75
abbrev pub closed_at75 : List Handed
closed_at75 =
    at 25 0x00 (driving 0x00000002) 0x00000000 0x00
    ∷ at 50 0x00 (driving 0x00000002) 0x00000002 0x00
    ∷ at 75 0x00 (driving 0x00000002) 0x00000002 0x01
    ∷ []

-- "lost under a path fault as other requests are": the bit stays, and goes by a drop once the path is back
abbrev pub drop_lost : Night
drop_lost =
    feeding night_map
    (closed_at75
    ++ (at 100 0x01 (dropping 0xFF quiet) 0x00000002 0x01
    ∷ at 125 0x00 quiet 0x00000002 0x01
    ∷ at 150 0x00 (dropping 0x01 quiet) 0x00000002 0x00
    ∷ []))

-- jets 1, 5 and 9 stand on three manifolds: a drop of one leaves the others
abbrev pub drop_of_one : Night
drop_of_one =
    feeding three_manifold_map
    (at 25 0x00 (driving 0x00000222) 0x00000000 0x00
    ∷ at 50 0x00 (driving 0x00000222) 0x00000222 0x00
    ∷ at 75 0x00 (driving 0x00000222) 0x00000222 0x07
    ∷ at 100 0x00 (dropping 0x02 quiet) 0x00000222 0x05
    ∷ at 125 0x00 (dropping 0x05 quiet) 0x00000222 0x00
    ∷ [])

-- a drop where no close bit is set changes nothing: neither of manifold 0 before it closes, nor of others
abbrev pub nothing_to_drop : Night
nothing_to_drop =
    feeding night_map
    (at 25 0x00 (dropping 0xFF (driving 0x00000002)) 0x00000000 0x00
    ∷ at 50 0x00 (dropping 0xFF (driving 0x00000002)) 0x00000002 0x00
    ∷ at 75 0x00 (dropping 0xFE (driving 0x00000002)) 0x00000002 0x01
    ∷ at 100 0x00 (dropping 0xFE quiet) 0x00000002 0x01
    ∷ [])

-- a drop at the second of three bad major cycles takes nothing from the third: close bit at 75; and one at 75 itself comes before step 6
abbrev pub dropped_before : Night
dropped_before =
    feeding night_map
    (at 25 0x00 (driving 0x00000002) 0x00000000 0x00
    ∷ at 50 0x00 (dropping 0x01 (driving 0x00000002)) 0x00000002 0x00
    ∷ at 75 0x00 (dropping 0x01 (driving 0x00000002)) 0x00000002 0x01
    ∷ [])

-- after a drop the close bit comes again at the third of three bad major cycles in a row
abbrev pub closes_again : Night
closes_again =
    feeding night_map
    (closed_at75
    ++ (at 100 0x00 (dropping 0x01 quiet) 0x00000002 0x00
    ∷ at 125 0x00 (driving 0x00000002) 0x00000002 0x00
    ∷ at 150 0x00 (driving 0x00000002) 0x00000002 0x00
    ∷ at 175 0x00 (driving 0x00000002) 0x00000002 0x01
    ∷ []))

-- each string has its own drop byte, and its own path: jets 1 of string 0 and 5 of string 1 are bad; string 1 is asked to drop at 100, and
-- string 0 at 125, when its path is lost, and at 150
abbrev pub drop_of_one_string : Night
drop_of_one_string =
    feeding two_string_map
    (at_both 25 0x00 (driving 0x00000002) (driving 0x00000020) (shows 0x00000000 0x00) (shows 0x00000000 0x00)
    ∷ at_both 50 0x00 (driving 0x00000002) (driving 0x00000020) (shows 0x00000002 0x00) (shows 0x00000020 0x00)
    ∷ at_both 75 0x00 (driving 0x00000002) (driving 0x00000020) (shows 0x00000002 0x01) (shows 0x00000020 0x01)
    ∷ at_both 100 0x00 quiet (dropping 0x01 quiet) (shows 0x00000002 0x01) (shows 0x00000020 0x00)
    ∷ at_both 125 0x01 (dropping 0x01 quiet) quiet (shows 0x00000002 0x01) (shows 0x00000020 0x00)
    ∷ at_both 150 0x00 (dropping 0x01 quiet) quiet (shows 0x00000002 0x00) (shows 0x00000020 0x00)
    ∷ [])

-- a record that answers 7 drops nothing
abbrev pub drop_not_taken : Night
drop_not_taken =
    feeding night_map
    (closed_at75
    ++ (record {
      bytes = record_bytes 100 0x00 (dropping 0x01 (requesting 0x00000001 0x00000001)) quiet;
      answer = BothWays;
      report = report_of_string 7 75 0x00000002 0x01;
    }
    ∷ at 125 0x00 (dropping 0x01 quiet) 0x00000002 0x00
    ∷ []))

unfoldable pub drop_nights : List Night
drop_nights =
    drop_lost ∷ drop_of_one ∷ nothing_to_drop ∷ dropped_before ∷ closes_again ∷ drop_of_one_string ∷ drop_not_taken ∷ []
