-- Which records calls have settled of a feed, and where they stand in it. Lists of calls are the newest first. Assumes nothing.
use Rattle.std.specs.Prelude.{◌≡◌, ℕ, ◌+◌, ◌<◌, true, List, [], ◌∷◌, ◌++◌, length}
use Rattle.cycle.specs.Answers.{writes_report}
use Rattle.cycle.specs.declared.map.Masks.{Masks}
use Rattle.feed.specs.Settled.{record_in}
use Rattle.feed.specs.Call.{holds}
use Rattle.feed.specs.Calls.{Made, monitor_after, result_of, answer_of}

-- so many bytes of the feed have been used
unfoldable pub used_by : List Masks → List Made → ℕ
used_by masks [] = 0
used_by masks (c ∷ cs) = used_by masks cs + (result_of masks c cs).outcome.used

-- The newest of the calls or an earlier one settled the record r and reported it, and so many bytes of the feed came before it: what was
-- used then is these, the record, and the bytes held behind it.
pub data SettledAt (masks : List Masks) : List Made → ℕ → List ℕ → Type 0 where
  now : {cs : List Made} {c : Made} (place : ℕ) (r : List ℕ) → writes_report (answer_of masks c cs) ≡ true
      → r ≡ record_in (holds (monitor_after masks cs) ++ c.piece)
      → place + length r + length (holds (monitor_after masks (c ∷ cs))) ≡ used_by masks (c ∷ cs)
      → SettledAt masks (c ∷ cs) place r
  earlier : {cs : List Made} {c : Made} {place : ℕ} {r : List ℕ} → SettledAt masks cs place r → SettledAt masks (c ∷ cs) place r

-- no other settled record overlaps the bytes r at this place
abbrev pub Alone : List Masks → List Made → ℕ → List ℕ → Type 0
Alone masks cs place r =
    (other : ℕ) (x : List ℕ) → SettledAt masks cs other x → other < place + length r → place < other + length x → other ≡ place
