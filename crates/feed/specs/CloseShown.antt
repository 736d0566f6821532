-- Demand 3, close, as 02, order 6, words it: when a manifold's close command is in a report, and when it first appears "since fresh, or at
-- or after the last drop carried out, that cycle included". The manifold is number i of string s, its jets are `mask`; lists are the newest
-- first. Assumes nothing.
use Rattle.std.specs.Prelude.{◌≡◌, ℕ, ◌+◌, ◌*◌, ◌<◌, true, ◌⊎◌, List, [], ◌∷◌, ◌++◌, slice_index}
use Rattle.bits.specs.Bit.{bit}
use Rattle.cycle.specs.Answers.{writes_report}
use Rattle.cycle.specs.Close.{Third}
use Rattle.cycle.specs.declared.answer.Answer.TheVariants.{Taken}
use Rattle.cycle.specs.declared.map.Masks.{Masks}
use Rattle.feed.specs.Settled.{record_in}
use Rattle.feed.specs.Heard.{Heard, jet_heard, DropCarriedOut, jet_history}
use Rattle.feed.specs.Call.{holds}
use Rattle.feed.specs.Calls.{Made, monitor_after, answer_of, report_in}

-- ---- of the records taken

-- at the record t, taken after ts, one of the manifold's jets "has been bad at that and the two major cycles before", as demand 3 words it;
-- "the three bad major cycles may reach back before the drop"
pub record ThirdNow (mask s i : ℕ) (t : Heard) (ts : List Heard) : Type 0 where
  pub jet : ℕ
  pub in_word : jet < 32
  pub InMask : bit jet mask ≡ true
  pub third : Third (jet_heard s i jet t) (jet_history s i jet ts)

-- at one of the records taken, and no drop is carried out after it
abbrev pub ThirdSince : ℕ → ℕ → ℕ → List Heard → Type 0
ThirdSince mask s i [] = ⊥
ThirdSince mask s i (t ∷ ts) = ThirdNow mask s i t ts ⊎ ((DropCarriedOut s i t.bytes → ⊥) × ThirdSince mask s i ts)

-- the newest of the records taken is "the earliest major cycle in which" this is so, since fresh or since the last drop
abbrev pub Earliest : ℕ → ℕ → ℕ → List Heard → Type 0
Earliest mask s i [] = ⊥
Earliest mask s i (t ∷ ts) = ThirdNow mask s i t ts × (DropCarriedOut s i t.bytes ⊎ (ThirdSince mask s i ts → ⊥))

-- ---- of the calls

-- the report of the call c, made after the calls cs, has the close command
abbrev pub Shows : List Masks → ℕ → ℕ → Made → List Made → Type 0
Shows masks s i c cs = bit i (slice_index (report_in masks c cs) (7 + 5 * s + 4)) ≡ true

-- the call takes a record that carries out a drop
abbrev pub TakesDrop : List Masks → ℕ → ℕ → Made → List Made → Type 0
TakesDrop masks s i c cs = (answer_of masks c cs ≡ Taken) × DropCarriedOut s i (record_in (holds (monitor_after masks cs) ++ c.piece))

-- none of the calls `later`, made after cs, does
abbrev pub NoneTakesDrop : List Masks → ℕ → ℕ → List Made → List Made → Type 0
NoneTakesDrop masks s i [] cs = Unit {0}
NoneTakesDrop masks s i (c ∷ later) cs = (TakesDrop masks s i c (later ++ cs) → ⊥) × NoneTakesDrop masks s i later cs

-- no report of these calls has the close command, from the last drop carried out on, that cycle included, or since fresh; also none that
-- answers 1 to 4 or 7
abbrev pub NotShownSince : List Masks → ℕ → ℕ → List Made → Type 0
NotShownSince masks s i [] = Unit {0}
NotShownSince masks s i (c ∷ cs) =
    (writes_report (answer_of masks c cs) ≡ true → Shows masks s i c cs → ⊥) × (TakesDrop masks s i c cs ⊎ NotShownSince masks s i cs)
