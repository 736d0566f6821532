-- Demand 2: what a report shows is what the rules say, jet by jet, for the records taken so far, the newest first. Assumes nothing.
use Rattle.std.specs.Prelude.{◌≡◌, ℕ, ◌+◌, ◌*◌, ◌<◌, false, ◌&&◌, List, length, slice_index, slice_index_or}
use Rattle.bits.specs.Bit.{bit, any}
use Rattle.cycle.specs.Answers.{number_of}
use Rattle.cycle.specs.Jets.{run, asked_since_drop}
use Rattle.cycle.specs.Leak.{signed}
use Rattle.cycle.specs.Map.{masks_of, InMask}
use Rattle.cycle.specs.declared.answer.Answer.{Answer}
use Rattle.cycle.specs.declared.map.Masks.{Masks}
use Rattle.feed.specs.Bytes.{two, four}
use Rattle.feed.specs.Heard.{Heard, reached_by, jet_history, bank_heard, difference_heard}

-- "52 52; answer; n after it (4); for each string the fail word (4) and close byte (1); balance byte; three lesser quantities (2 each)";
-- 02, order 10: three differences, "2 bytes each in two's complement, after the lesser quantities. A report is 40 bytes". Each bit of a
-- string by the run of `Jets` from fresh over the jet's own values in the records taken; the banks by the last major one. Four strings,
-- each of 32 jets and eight manifolds, and three modules: the counts are written as the documents write them, so that no other is proved.
pub record Tells (masks : List Masks) (a : Answer) (ts : List Heard) (report : List ℕ) : Type 0 where
  pub long : length report ≡ 40
  pub byte : (k : ℕ) → slice_index report k < 256
  pub mark : (slice_index report 0 ≡ 0x52) × (slice_index report 1 ≡ 0x52)
  pub answer : slice_index_or report 2 0 ≡ number_of a
  pub number : four report 3 ≡ reached_by ts
  pub fail : (s i j : ℕ) → s < 4 → i < 8 → InMask (masks_of masks s) i j
      → bit j (four report (7 + 5 * s)) ≡ (run (jet_history s i j ts)).standing.fail
  -- "bits .. of jets in no mask .. are 0 in reports"
  pub no_mask : (s j : ℕ) → s < 4 → ((i : ℕ) → i < 8 → InMask (masks_of masks s) i j → ⊥)
      → bit j (four report (7 + 5 * s)) ≡ false
  -- "Each manifold with a jet in the recheck word that is bad and not re-enabled gets its close bit"; 02, order 6: it stays until a drop is
  -- carried out; order 7: "Valve byte, close byte and drop byte use all eight bits"
  pub close : (s i : ℕ) → s < 4 → i < 8
      → bit i (slice_index report (7 + 5 * s + 4))
      ≡ any 32 (λ j. bit j (slice_index (masks_of masks s) i) && asked_since_drop (jet_history s i j ts))
  -- "Balance: bit m set if module m is out of balance, bit 4+m if its oxidizer is the lesser."
  pub unbalanced : (m : ℕ) → m < 3 → bit m (slice_index report 27) ≡ (bank_heard m ts).unbalanced
  pub oxidizer : (m : ℕ) → m < 3 → bit (4 + m) (slice_index report 27) ≡ (bank_heard m ts).oxidizer
  pub no_module : (bit 3 (slice_index report 27) ≡ false) × (bit 7 (slice_index report 27) ≡ false)
  pub lesser : (m : ℕ) → m < 3 → two report (28 + 2 * m) ≡ (bank_heard m ts).lesser
  -- 02, order 10: "fuel less oxidizer as a signed number" of the last taken major record; "At fresh they are 0."
  pub difference : (m : ℕ) → m < 3 → signed (two report (34 + 2 * m)) ≡ difference_heard m ts
