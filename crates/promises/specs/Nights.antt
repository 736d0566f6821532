-- 01, "Nights to try": those marked * (but for the temperatures', which are in NightsOfLeaks), each in the paper's words and from fresh
-- through every cycle; and the single list of all nights. Assumes nothing.
use Rattle.std.specs.Prelude.{cond, List, [], ◌∷◌, ◌++◌, map, ℕ, ltb, replicate}
use Rattle.cycle.specs.Records.{minor}
use Rattle.cycle.specs.declared.answer.Answer.TheVariants.{Taken}
use Rattle.cycle.specs.declared.values.Quantities.{Quantities}
use Rattle.promises.specs.NightRecords.{night_map, sample_with, quiet_sample, quiet_temperatures}
use Rattle.promises.specs.NightRecords.{minor_with, record_with, record_of_sample, at_majors, keeping}
use Rattle.promises.specs.NightHolds.{Exchange, Night, stepping, feeding, report_with, no_banks, report_of_string, since, cycles}
use Rattle.promises.specs.NightsOfLeaks.{temperature_nights, frozen_nights}
use Rattle.promises.specs.NightsOfJets.{jet_nights}
use Rattle.promises.specs.NightsOfRequests.{request_nights}
use Rattle.promises.specs.NightsOfBothWays.{both_ways_nights}
use Rattle.promises.specs.NightsOfDrops.{repair_nights, drop_nights}
use Rattle.promises.specs.NightsOfManifolds.{manifold_nights}
use Rattle.promises.specs.NightsOfEight.{eight_manifold_nights}
use Rattle.promises.specs.NightsOfClosedValves.{closed_valve_nights}
use Rattle.promises.specs.NightsOfTenants.{tenant_nights}
use Rattle.promises.specs.NightsOfPaths.{path_nights}
use Rattle.promises.specs.NightsOfLostValves.{lost_valve_nights}

-- "First record 52 4D 00 01 00, then four times (twelve 00, then ..)": 02, order 7, "each 0F becomes FF and the sum 04 9C". "Report:
-- 52 52 00 00 00 00 01, then" (02, order 10: "the first night's ends in") "33 bytes 00".
abbrev pub four_times : List ℕ → List ℕ
four_times l = l ++ l ++ l ++ l

abbrev pub first_record : Night
first_record =
    feeding night_map
    (record {
      bytes = 0x52 ∷ 0x4D ∷ 0x00 ∷ 0x01 ∷ 0x00 ∷ four_times (replicate 12 0x00 ++ (0xFF ∷ [])) ++ (0x04 ∷ 0x9C ∷ []);
      answer = Taken;
      report = 0x52 ∷ 0x52 ∷ 0x00 ∷ 0x00 ∷ 0x00 ∷ 0x00 ∷ 0x01 ∷ replicate 33 0x00;
    }
    ∷ [])

-- jet 0 commanded, no pressure, at the cycle n; good before the cycle `fails`, failed from it on
abbrev pub no_pressure : ℕ → ℕ → Exchange
no_pressure fails n =
    record { given = record_of_sample n (sample_with 0x00000001 0 0xFF); report = report_of_string 0 n (since fails 0x00000001 n) 0x00 }

-- "Jet 0 commanded, no pressure at 1, 2, 3: good after 2, failed at 3."
abbrev pub fails_off : Night
fails_off = stepping night_map (map (no_pressure 3) (1 ∷ 2 ∷ 3 ∷ []))

-- "The same at 1, 2, 4, 5, 6: failed at 6, not at 4 or 5."
abbrev pub fails_off_after_gap : Night
fails_off_after_gap = stepping night_map (map (no_pressure 6) (1 ∷ 2 ∷ 4 ∷ 5 ∷ 6 ∷ []))

-- driver of jet 1 on, no command, if n is a major cycle; failed from 50 on, and the close bit from the cycle `closes` on
abbrev pub driver_on : ℕ → ℕ → Exchange
driver_on closes n = record {
  given = record_of_sample n (at_majors n (sample_with 0 0x00000002 0xFF));
  report = report_of_string 0 n (since 50 0x00000002 n) (since closes 0x01 n);
}

-- "Driver of jet 1 on, no command, at 25, 50, 75, all cycles taken: failed at 50, close bit at 75."
abbrev pub fails_on : Night
fails_on = stepping night_map (map (driver_on 75) (cycles 1 75))

-- "The same with record 75 missing, bad at 100, 125, 150: close bit at 150." Cycles 1 to 74, and 76 to 150
abbrev pub fails_on_after_gap : Night
fails_on_after_gap = stepping night_map (map (driver_on 150) (cycles 1 74 ++ cycles 76 75))

-- at the cycle n: the jets commanded, without pressure, the valves open, and the fail word after it
abbrev pub valves_open : ℕ → ℕ → ℕ → ℕ → Exchange
valves_open n commanded valves fail =
    record { given = record_of_sample n (sample_with commanded 0 valves); report = report_of_string 0 n fail 0x00 }

-- "Jet 2 failed off, valve closes: fail word 0000000F. It opens: 00000004 (no commands)."
abbrev pub valve_closes : Night
valve_closes =
    stepping night_map
    (valves_open 1 0x00000004 0xFF 0x00000000
    ∷ valves_open 2 0x00000004 0xFF 0x00000000
    ∷ valves_open 3 0x00000004 0xFF 0x00000004
    ∷ valves_open 4 0x00000000 0xFE 0x0000000F
    ∷ valves_open 5 0x00000000 0xFF 0x00000004
    ∷ [])

-- a quiet minor record with this wire cycle, and what is reported: the answer and n
abbrev pub wired : ℕ → ℕ → ℕ → Exchange
wired wire answer n = record { given = minor (minor_with wire quiet_sample); report = report_of_string answer n 0x00000000 0x00 }

-- "Wire 0 after wire 65,535: taken. d = 32,767: taken. d = 32,768: stale." Fresh, d is 32,768 and then 32,767; then the same two again;
-- then wires 65,535 and 0, and d is 32,768 once more
abbrev pub wires : List Exchange
wires =
    wired 32768 1 0
    ∷ wired 32767 0 32767
    ∷ wired 65535 1 32767
    ∷ wired 65534 0 65534
    ∷ wired 65535 0 65535
    ∷ wired 0 0 65536
    ∷ wired 32768 1 65536
    ∷ []

abbrev pub wire_wraps : Night
wire_wraps = stepping night_map wires

-- "Quantities 500 and 516: balanced. 500 and 517: not. Equal: fuel is the lesser." Modules 0, 1 and 2 in this order: at 25 the lesser
-- of two unequal quantities is the fuel, at 50 the oxidizer
abbrev pub less_fuel : List Quantities
less_fuel = keeping 500 516 ∷ keeping 500 517 ∷ keeping 500 500 ∷ []

abbrev pub less_oxidizer : List Quantities
less_oxidizer = keeping 516 500 ∷ keeping 517 500 ∷ keeping 500 500 ∷ []

-- the lesser is 500 everywhere
abbrev pub lesser500 : List ℕ
lesser500 = 0x01 ∷ 0xF4 ∷ 0x01 ∷ 0xF4 ∷ 0x01 ∷ 0xF4 ∷ []

-- nothing before 25; then bit 1 of the balance byte, module 1 being out of balance; from 50 on also bits 4 and 5, the oxidizer being the
-- lesser in modules 0 and 1 and not in module 2. 02, order 10: fuel less oxidizer is -16, -17 and 0, from 50 on 16, 17 and 0
abbrev pub banks_at : ℕ → List ℕ
banks_at n =
    cond (ltb n 25) no_banks
    (cond (ltb n 50) (0x02 ∷ lesser500 ++ (0xFF ∷ 0xF0 ∷ 0xFF ∷ 0xEF ∷ 0x00 ∷ 0x00 ∷ []))
    (0x32 ∷ lesser500 ++ (0x00 ∷ 0x10 ∷ 0x00 ∷ 0x11 ∷ 0x00 ∷ 0x00 ∷ [])))

abbrev pub weighing : ℕ → Exchange
weighing n = record {
  given = record_with n quiet_sample quiet_temperatures (cond (ltb n 50) less_fuel less_oxidizer);
  report = report_with 0 n 0x00000000 0x00 (banks_at n);
}

abbrev pub quantities_balance : Night
quantities_balance = stepping night_map (map weighing (cycles 1 50))

unfoldable pub starred_nights : List Night
starred_nights = first_record ∷ fails_off ∷ fails_off_after_gap ∷ fails_on ∷ fails_on_after_gap ∷ valve_closes ∷ wire_wraps ∷ quantities_balance ∷ []

-- the single list: those that 01 marks, as 02 amends them; those that pin each step where no law does; and those of 02, order 3, from
-- bytes to the close bit, and orders 4, 6, 7, 8 and 9
unfoldable pub nights : List Night
nights =
    starred_nights
    ++ (temperature_nights
    ++ (jet_nights
    ++ (request_nights
    ++ (manifold_nights
    ++ (path_nights
    ++ (lost_valve_nights
    ++ (frozen_nights
    ++ (both_ways_nights ++ (repair_nights ++ (drop_nights ++ (eight_manifold_nights ++ (closed_valve_nights ++ tenant_nights))))))))))))
