-- The step that a program repeats, `runs`, as calls that hand in a feed. Assumes nothing.
use Rattle.std.specs.Prelude.{◌≡◌, ℕ, ◌+◌, ◌<◌, ◌≤◌, true, false, cond, List, [], ◌∷◌, ◌++◌, length, drop}
use Rattle.cycle.specs.Answers.{writes_report}
use Rattle.cycle.specs.declared.answer.Answer.TheVariants.{NothingSettled}
use Rattle.cycle.specs.declared.map.Masks.{Masks}
use Rattle.feed.specs.Size.{outbox_needed}
use Rattle.feed.specs.Call.{Reported}
use Rattle.feed.specs.Calls.{Made, monitor_after, answer_of, report_in, Hands}

-- every report that the calls wrote, one behind the other
unfoldable pub all_reports : List Masks → List Made → List ℕ
all_reports masks [] = []
all_reports masks (c ∷ cs) = all_reports masks cs ++ cond (writes_report (answer_of masks c cs)) (report_in masks c cs) []

-- each of the calls `more`, made after cs, settled a record
abbrev pub AllSettled : List Masks → List Made → List Made → Type 0
AllSettled masks [] cs = Unit {0}
AllSettled masks (c ∷ more) cs = (writes_report (answer_of masks c (more ++ cs)) ≡ true) × AllSettled masks more cs

-- the last one settled nothing, and the others a record each
abbrev pub LastAlone : List Masks → List Made → List Made → Type 0
LastAlone masks [] cs = ⊥
LastAlone masks (c ∷ more) cs = (answer_of masks c (more ++ cs) ≡ NothingSettled) × AllSettled masks more cs

-- After the calls cs, with this piece and more behind it left of the feed: calls go on until one settles nothing, the piece then being used
-- up, or until so much of the room is written that it is too short for a call; bytes used, monitor and reports are what `runs` says.
pub record Continues (masks : List Masks) (feed : List ℕ) (cs : List Made) (piece behind : List ℕ) (room : ℕ) (x : Reported) : Type 0 where
  pub more : List Made
  pub fits : length x.reports ≤ room
  pub within : x.used ≤ length piece
  pub hands : Hands masks feed (more ++ cs) (drop x.used piece ++ behind)
  pub monitor : monitor_after masks (more ++ cs) ≡ x.monitor
  pub reports : all_reports masks (more ++ cs) ≡ all_reports masks cs ++ x.reports
  pub full : x.more ≡ true → AllSettled masks more cs × (room < length x.reports + outbox_needed)
  pub idle : x.more ≡ false → LastAlone masks more cs × (x.used ≡ length piece)
