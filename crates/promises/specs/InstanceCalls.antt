-- The calls that hand in the feeds of the instance, the newest first, and what each of them gives back. Assumes nothing.
use Rattle.std.specs.Prelude.{◌≡◌, List, [], ◌∷◌, ◌++◌, ℕ, take, drop, replicate}
use Rattle.cycle.specs.Inside.Runs.{hall_after}
use Rattle.cycle.specs.Records.{Record, major}
use Rattle.cycle.specs.declared.answer.Answer.{Answer}
use Rattle.cycle.specs.declared.answer.Answer.TheVariants.{Taken, Stale, Repeat, NothingSettled}
use Rattle.cycle.specs.declared.hall.Hall.{Hall}
use Rattle.feed.specs.Size.{outbox_needed}
use Rattle.feed.specs.Call.{Result, holding}
use Rattle.feed.specs.Calls.{Made, result_of, answer_of}
use Rattle.feed.specs.CloseShown.{Shows, NotShownSince}
use Rattle.promises.specs.NightRecords.{night_map, sample_with, quiet_quantities, dropping_with, record_of_sample}
use Rattle.promises.specs.NightHolds.{report_of_string}
use Rattle.promises.specs.Instance.{major_bytes, minor_bytes, repair_bytes}

-- ---- what a list of calls states

abbrev pub room : List ℕ
room = replicate outbox_needed 0xFF

abbrev pub handing : List ℕ → Made
handing piece = record { piece = piece; outbox = room }

-- a call: the piece that it is handed, with an outbox of 40 bytes FF, and what it gives back
pub record Exchanged : Type 0 where
  pub piece : List ℕ
  pub result : Result

abbrev pub gives : List ℕ → Answer → ℕ → Hall → List ℕ → List ℕ → Exchanged
gives piece answer used hall held outbox = record {
  piece = piece;
  result = record { outcome = record { answer = answer; used = used; monitor = holding hall held }; outbox = outbox };
}

abbrev pub made_of : List Exchanged → List Made
made_of [] = []
made_of (x ∷ xs) = handing x.piece ∷ made_of xs

-- made one after the other from fresh over the map, they give back what is stated
abbrev pub Given : List Exchanged → Type 0
Given [] = Unit {0}
Given (x ∷ xs) = (result_of night_map (handing x.piece) (made_of xs) ≡ x.result) × Given xs

-- ---- the calls

-- the values of the major record with this wire cycle, and the halls after those of 25, 50 and 75
abbrev pub driven : ℕ → Record
driven wire = record_of_sample wire (sample_with 0 0x00000002 0xFF)

unfoldable pub hall_at25 : Hall
hall_at25 = hall_after night_map (driven 25 ∷ [])

unfoldable pub hall_at50 : Hall
hall_at50 = hall_after night_map (driven 50 ∷ driven 25 ∷ [])

unfoldable pub hall_at75 : Hall
hall_at75 = hall_after night_map (driven 75 ∷ driven 50 ∷ driven 25 ∷ [])

-- up to record 25, and to record 50: nothing is held behind them
abbrev pub up_to25 : List Exchanged
up_to25 =
    gives [] NothingSettled 0 hall_at25 [] room
    ∷ gives (major_bytes 25) Taken 619 hall_at25 [] (report_of_string 0 25 0x00000000 0x00)
    ∷ []

abbrev pub up_to50 : List Exchanged
up_to50 =
    gives [] NothingSettled 0 hall_at50 [] room
    ∷ gives (major_bytes 50) Taken 619 hall_at50 [] (report_of_string 0 50 0x00000002 0x00)
    ∷ gives (major_bytes 25 ++ major_bytes 50) Taken 619 hall_at25 [] (report_of_string 0 25 0x00000000 0x00)
    ∷ []

-- the feed in its pieces: up to record 50, and then record 75 with the close bit of manifold 0 of string 0
abbrev pub feed_to50 : List Exchanged
feed_to50 =
    gives (drop 85 (major_bytes 50) ++ major_bytes 75) Taken 534 hall_at50 [] (report_of_string 0 50 0x00000002 0x00)
    ∷ gives [] NothingSettled 0 hall_at25 (take 85 (major_bytes 50)) room
    ∷ gives (take 85 (major_bytes 50)) NothingSettled 85 hall_at25 (take 85 (major_bytes 50)) room
    ∷ gives (major_bytes 25 ++ take 85 (major_bytes 50)) Taken 619 hall_at25 [] (report_of_string 0 25 0x00000000 0x00)
    ∷ []

abbrev pub last_taken : Exchanged
last_taken = gives (major_bytes 75) Taken 619 hall_at75 [] (report_of_string 0 75 0x00000002 0x01)

abbrev pub last_idle : Exchanged
last_idle = gives [] NothingSettled 0 hall_at75 [] room

abbrev pub feed_calls : List Exchanged
feed_calls = last_idle ∷ last_taken ∷ feed_to50

-- behind record 75 the record that drops the close bit
abbrev pub repaired : Record
repaired = major (dropping_with 100 0x01 quiet_quantities)

unfoldable pub hall_at100 : Hall
hall_at100 = hall_after night_map (repaired ∷ driven 75 ∷ driven 50 ∷ driven 25 ∷ [])

abbrev pub up_to75 : List Exchanged
up_to75 = last_taken ∷ feed_to50

abbrev pub drop_taken : Exchanged
drop_taken = gives repair_bytes Taken 619 hall_at100 [] (report_of_string 0 100 0x00000002 0x00)

-- the longer feed in its pieces, with a repeat and a stale record on the way
abbrev pub longer_to50 : List Exchanged
longer_to50 =
    gives (drop 15 (minor_bytes 10) ++ major_bytes 75) Stale 44 hall_at50 [] (report_of_string 1 50 0x00000002 0x00)
    ∷ gives (take 15 (minor_bytes 10)) NothingSettled 15 hall_at50 (take 15 (minor_bytes 10)) room
    ∷ gives (major_bytes 50 ++ take 15 (minor_bytes 10)) Taken 619 hall_at50 [] (report_of_string 0 50 0x00000002 0x00)
    ∷ gives (drop 385 (major_bytes 25) ++ (major_bytes 50 ++ take 15 (minor_bytes 10))) Repeat 234 hall_at25 []
    (report_of_string 2 25 0x00000000 0x00)
    ∷ gives (take 385 (major_bytes 25)) NothingSettled 385 hall_at25 (take 385 (major_bytes 25)) room
    ∷ gives (major_bytes 25 ++ take 385 (major_bytes 25)) Taken 619 hall_at25 [] (report_of_string 0 25 0x00000000 0x00)
    ∷ []

abbrev pub longer_calls : List Exchanged
longer_calls = last_idle ∷ last_taken ∷ longer_to50

-- ---- the reports

-- those that answer 0: jet 1 fails at 50, and the close bit comes at 75
abbrev pub three_reports : List (List ℕ)
three_reports =
    report_of_string 0 25 0x00000000 0x00 ∷ report_of_string 0 50 0x00000002 0x00 ∷ report_of_string 0 75 0x00000002 0x01 ∷ []

-- after the calls: the answer to record 75 is 0, its report has the close bit of manifold 0 of string 0, and no report before it
-- has it
pub record Appears (xs : List Exchanged) : Type 0 where
  pub answer : answer_of night_map (handing (major_bytes 75)) (made_of xs) ≡ Taken
  pub shown : Shows night_map 0 0 (handing (major_bytes 75)) (made_of xs)
  pub not_before : NotShownSince night_map 0 0 (made_of xs)
