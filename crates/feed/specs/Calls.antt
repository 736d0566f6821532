-- Calls one after the other, from fresh over a map, and a feed handed in by them: what the demands speak of. Lists of calls are the newest
-- first, lists of reports the oldest first. Assumes nothing.
use Rattle.std.specs.Prelude.{◌≡◌, ℕ, ◌+◌, ◌≤◌, cond, List, [], ◌∷◌, ◌++◌, length, take, drop}
use Rattle.cycle.specs.Answers.{is_taken}
use Rattle.cycle.specs.declared.answer.Answer.{Answer}
use Rattle.cycle.specs.declared.answer.Answer.TheVariants.{NothingSettled}
use Rattle.cycle.specs.declared.map.Masks.{Masks}
use Rattle.feed.specs.Settled.{record_in}
use Rattle.feed.specs.Answered.{apart}
use Rattle.feed.specs.Heard.{Heard, reached_by}
use Rattle.feed.specs.Size.{report_length, outbox_needed}
use Rattle.feed.specs.Call.{holds, started_over, Result, call}
use Rattle.feed.specs.declared.call.Monitor.{Monitor}

-- ---- any calls at all

-- a call that was made: what it was handed
pub record Made : Type 0 where
  pub piece : List ℕ
  pub outbox : List ℕ

-- the monitor that the calls leave, from fresh over the map
unfoldable pub monitor_after : List Masks → List Made → Monitor
monitor_after masks [] = (started_over masks).monitor
monitor_after masks (c ∷ cs) = (call (monitor_after masks cs) c.piece c.outbox).outcome.monitor

-- what the call c gave back, made after the calls cs
abbrev pub result_of : List Masks → Made → List Made → Result
result_of masks c cs = call (monitor_after masks cs) c.piece c.outbox

abbrev pub answer_of : List Masks → Made → List Made → Answer
answer_of masks c cs = (result_of masks c cs).outcome.answer

-- the report that it wrote, where it wrote one
abbrev pub report_in : List Masks → Made → List Made → List ℕ
report_in masks c cs = take report_length (result_of masks c cs).outbox

-- "the reports that answer 'taken'"
abbrev pub report_if_taken : List Masks → Made → List Made → List (List ℕ)
report_if_taken masks c cs = cond (is_taken (answer_of masks c cs)) (report_in masks c cs ∷ []) []

unfoldable pub taken_reports : List Masks → List Made → List (List ℕ)
taken_reports masks [] = []
taken_reports masks (c ∷ cs) = taken_reports masks cs ++ report_if_taken masks c cs

-- "the records taken so far", the newest first: their bytes, and the cycle number that each led to, the old one and d
unfoldable pub taken_records : List Masks → List Made → List Heard
taken_records masks [] = []
taken_records masks (c ∷ cs) =
    let before = taken_records masks cs in
    let r = record_in (holds (monitor_after masks cs) ++ c.piece) in
    cond (is_taken (answer_of masks c cs)) (record { n = reached_by before + apart (reached_by before) r; bytes = r } ∷ before) before

-- ---- a feed

-- The calls hand in this feed, "with a long enough outbox", and so much is left of it: a call gets a piece from the front of what is left,
-- of any length, also none, and what it does not use of that is left to be handed in again, cut as the caller likes.
pub data Hands (masks : List Masks) (feed : List ℕ) : List Made → List ℕ → Type 0 where
  starts : Hands masks feed [] feed
  calls : {cs : List Made} {left after : List ℕ} {c : Made} (rest : List ℕ) → outbox_needed ≤ length c.outbox
      → Hands masks feed cs left → left ≡ c.piece ++ rest
      → after ≡ drop (result_of masks c cs).outcome.used c.piece ++ rest → Hands masks feed (c ∷ cs) after

-- the last call settled nothing
abbrev pub LastIdle : List Masks → List Made → Type 0
LastIdle masks [] = ⊥
LastIdle masks (c ∷ cs) = answer_of masks c cs ≡ NothingSettled

-- "call with a long enough outbox until all is used and the last call settled nothing"
pub record Finished (masks : List Masks) (feed : List ℕ) (cs : List Made) : Type 0 where
  pub all_used : Hands masks feed cs []
  pub last_idle : LastIdle masks cs

-- ---- a feed in given pieces

-- the bytes of all pieces
abbrev pub joined : List (List ℕ) → List ℕ
joined [] = []
joined (p ∷ ps) = p ++ joined ps

-- what is still to be used of the first piece; an empty one where none is left
abbrev pub first_of : List (List ℕ) → List ℕ
first_of [] = []
first_of (p ∷ ps) = p

-- the pieces behind it
abbrev pub rest_of : List (List ℕ) → List (List ℕ)
rest_of [] = []
rest_of (p ∷ ps) = ps

-- what is left when n bytes of the first are used
abbrev pub used_of : ℕ → List (List ℕ) → List (List ℕ)
used_of n [] = []
used_of n (p ∷ ps) = drop n p ∷ ps

-- The calls hand in these pieces, and so much is left of them: a call gets what is still to be used of the first piece, and a piece that is
-- used up makes room for the next.
pub data HandsPieces (masks : List Masks) (pieces : List (List ℕ)) : List Made → List (List ℕ) → Type 0 where
  starts : HandsPieces masks pieces [] pieces
  calls : {cs : List Made} {left after : List (List ℕ)} {c : Made} (outbox : List ℕ) → outbox_needed ≤ length outbox
      → HandsPieces masks pieces cs left
      → c ≡ record { piece = first_of left; outbox = outbox }
      → after ≡ used_of (result_of masks c cs).outcome.used left
      → HandsPieces masks pieces (c ∷ cs) after
  passes : {cs : List Made} {left : List (List ℕ)} → HandsPieces masks pieces cs ([] ∷ left) → HandsPieces masks pieces cs left

pub record FinishedPieces (masks : List Masks) (pieces : List (List ℕ)) (cs : List Made) : Type 0 where
  pub all_used : HandsPieces masks pieces cs []
  pub last_idle : LastIdle masks cs
