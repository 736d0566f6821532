-- 02, order 4: nights in which a jet is named both ways, from bytes. Map: the nights' own, jets 0 to 3 on manifold 0 of string 0.
-- Assumes nothing.
use Rattle.std.specs.Prelude.{cond, List, [], ◌∷◌, ◌++◌, map, ℕ}
use Rattle.cycle.specs.Numbers.{is_major}
use Rattle.cycle.specs.declared.answer.Answer.{Answer}
use Rattle.cycle.specs.declared.answer.Answer.TheVariants.{Taken, Stale, Repeat, WrongKind, BothWays}
use Rattle.promises.specs.Instance.{warm_words}
use Rattle.promises.specs.NightRecords.{night_map}
use Rattle.promises.specs.NightHolds.{Handed, Night, feeding, report_of_string, since, cycles}
use Rattle.promises.specs.NightBytes.{Said, at, quiet, driving, requesting, driving_at, major_at, record_bytes}

-- the driver of jet 1 is on, without command, at the major cycles; failed from 50 on, and the close bit from the cycle `closes` on
abbrev pub stuck_at : ℕ → ℕ → Handed
stuck_at closes n = at n 0x00 (cond (is_major n) (driving 0x00000002) quiet) (since 50 0x00000002 n) (since closes 0x01 n)

-- behind 74 the record of the cycle 75 comes and names jet 0 both ways: answer 7, and the report is that of 74 but for the answer
abbrev pub both_ways_at75 : ℕ → Handed
both_ways_at75 driver = record {
  bytes = record_bytes 75 0x00 (driving_at 0xFF driver 0x00000001 0x00000001) quiet;
  answer = BothWays;
  report = report_of_string 7 74 0x00000002 0x00;
}

-- "answer 7, .. monitor as before, report written, record gone from the reader": a clean record for 75 behind it is taken. The driver of
-- jet 1 is off by then
abbrev pub both_ways_refused : Night
both_ways_refused =
    feeding night_map
    (map (stuck_at 150) (cycles 1 74)
    ++ (both_ways_at75 0x00000000 ∷ at 75 0x00 quiet 0x00000002 0x00 ∷ at 76 0x00 quiet 0x00000002 0x00 ∷ []))

-- "A record so refused is not taken, so for demand 3 that major cycle is missed": jet 1 is bad at 25, 50 and 75, but 75 is answered 7. The
-- row begins anew: bad at 100, 125 and 150, close bit at 150
abbrev pub both_ways_missed : Night
both_ways_missed = feeding night_map (map (stuck_at 150) (cycles 1 74) ++ (both_ways_at75 0x00000002 ∷ map (stuck_at 150) (cycles 76 75)))

-- "unless a later record for the same cycle is taken": close bit at 75
abbrev pub both_ways_sent_again : Night
both_ways_sent_again = feeding night_map (map (stuck_at 75) (cycles 1 74) ++ (both_ways_at75 0x00000002 ∷ stuck_at 75 75 ∷ []))

-- a major record of the cycle n with this path byte, and the answer and report that it gets
abbrev pub asking : ℕ → ℕ → Said → Answer → List ℕ → Handed
asking n path said answer report = record { bytes = major_at (warm_words 256) n path said quiet; answer = answer; report = report }

-- "tested after 4": of the wrong kind at 24. "strings with the path bit set counted too": refused at 25. "only mapped jets counted": jets 4
-- to 31, which stand in no mask, are named both ways, and 0 to 3 one way each: taken. Then 2 and 1 before 7
abbrev pub both_ways_tested_last : Night
both_ways_tested_last =
    feeding night_map
    (asking 24 0x00 (requesting 0x00000001 0x00000001) WrongKind (report_of_string 4 0 0x00000000 0x00)
    ∷ asking 25 0x01 (requesting 0x00000008 0x00000008) BothWays (report_of_string 7 0 0x00000000 0x00)
    ∷ asking 25 0x00 (requesting 0xFFFFFFF3 0xFFFFFFFC) Taken (report_of_string 0 25 0x00000003 0x00)
    ∷ asking 25 0x00 (requesting 0x00000001 0x00000001) Repeat (report_of_string 2 25 0x00000003 0x00)
    ∷ asking 24 0x00 (requesting 0x00000001 0x00000001) Stale (report_of_string 1 25 0x00000003 0x00)
    ∷ [])

unfoldable pub both_ways_nights : List Night
both_ways_nights = both_ways_refused ∷ both_ways_missed ∷ both_ways_sent_again ∷ both_ways_tested_last ∷ []
