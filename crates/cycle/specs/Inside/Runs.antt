-- Runs of the hall from fresh over a map, and what one jet and one module see of them. Lists are the newest first. Assumes nothing.
use Rattle.std.specs.Prelude.{◌≡◌, ℕ, ◌<◌, Bool, cond, ◌&&◌, List, [], ◌∷◌, slice_index, slice_index_or}
use Rattle.bits.specs.Bit.{bit, any}
use Rattle.cycle.specs.Size.{string_count, jet_count, manifold_count, module_count}
use Rattle.cycle.specs.Answers.{is_taken}
use Rattle.cycle.specs.Jets.{JetRecord, history_by, newest_of, run, asked_since_drop}
use Rattle.cycle.specs.Banks.{no_bank, no_quantities, weighed}
use Rattle.cycle.specs.Records.{Record, minor, major}
use Rattle.cycle.specs.Map.{masks_of, InMask}
use Rattle.cycle.specs.Hall.{fresh_hall, stepped}
use Rattle.cycle.specs.Hall.{string_of}
use Rattle.cycle.specs.Views.{jet_of, jet_record}
use Rattle.cycle.specs.declared.banks.Bank.{Bank}
use Rattle.cycle.specs.declared.map.Masks.{Masks}
use Rattle.cycle.specs.declared.hall.Hall.{Hall}

-- the hall after the records that came
unfoldable pub hall_after : List Masks → List Record → Hall
hall_after masks [] = fresh_hall masks
hall_after masks (r ∷ rs) = (stepped r (hall_after masks rs)).hall

-- answered 0
abbrev pub takes : Record → Hall → Bool
takes r h = is_taken (stepped r h).answer

-- a record answered 0, with the cycle number that it led to
pub record TakenRecord : Type 0 where
  pub n : ℕ
  pub values : Record

-- the records answered 0 of those that came
unfoldable pub taken_of : List Masks → List Record → List TakenRecord
taken_of masks [] = []
taken_of masks (r ∷ rs) =
    let h = hall_after masks rs in
    let before = taken_of masks rs in
    cond (takes r h) (record { n = (stepped r h).hall.n; values = r } ∷ before) before

-- what they say of jet j on manifold i of string s
abbrev pub jet_history : ℕ → ℕ → ℕ → List TakenRecord → List JetRecord
jet_history s i j ts = history_by (λ (t : TakenRecord). jet_record t.n s i j t.values) ts

-- the cycle number reached
abbrev pub reached_by : List TakenRecord → ℕ
reached_by ts = newest_of (λ (t : TakenRecord). t.n) ts

-- what they say of module m's banks: "held until the next taken major record; all 0 when fresh"
abbrev pub bank_by : ℕ → Record → Bank → Bank
bank_by m (minor r) b = b
bank_by m (major r) b = weighed (slice_index_or r.quantities m no_quantities)

abbrev pub bank_after : ℕ → List TakenRecord → Bank
bank_after m [] = no_bank
bank_after m (t ∷ ts) = bank_by m t.values (bank_after m ts)

-- Everything that a report shows of the hall h is what the rules say jet by jet, over the records ts taken so far: the cycle number, and at
-- every mapped jet the state of that jet's own run from fresh; a manifold's close bit is 'some jet of its mask has asked since the last
-- drop'; each module's bank is that of the last taken major record.
pub record Told (masks : List Masks) (h : Hall) (ts : List TakenRecord) : Type 0 where
  pub map : h.masks ≡ masks
  pub number : h.n ≡ reached_by ts
  pub jets : (s i j : ℕ) → s < string_count → i < manifold_count → InMask (masks_of masks s) i j
      → jet_of i j (string_of h s) ≡ run (jet_history s i j ts)
  pub closes : (s i : ℕ) → s < string_count → i < manifold_count
      → bit i (string_of h s).close ≡ any jet_count (λ j. bit j (slice_index (masks_of masks s) i) && asked_since_drop (jet_history s i j ts))
  pub banks : (m : ℕ) → m < module_count → slice_index_or h.banks m no_bank ≡ bank_after m ts
