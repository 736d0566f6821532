-- The run that a program repeats, turn by turn: what its definition does, and what it uses. Assumes nothing.
use Rattle.std.proofs.Common.{◌≡◌, ℕ, zero, suc, ◌-◌, ◌<◌, ◌≤◌, true, false, List, [], length, drop, refl, ⊎_elim, arith, length-drop, le-ltb, lt-ltb}
use Rattle.cycle.specs.Answers.{writes_report}
use Rattle.feed.specs.Size.{outbox_needed}
use Rattle.feed.specs.Call.{holds, holding, called, reported_full, reported_then, reported_last, runs_within}
use Rattle.feed.specs.declared.call.Monitor.{Monitor}
use Rattle.feed.proofs.Records.Lengths.{by-test, below_or}
use Rattle.feed.proofs.Calls.Calling.{called-in-order}
use Rattle.feed.proofs.Calls.CallBounds.{used-within}

-- there is no room for a call
pub runs-full : (most room : ℕ) (m : Monitor) (piece : List ℕ) → room < outbox_needed → runs_within most room m piece ≡ reported_full m
unfolding runs_within
runs-full zero room m piece l = refl
runs-full (suc most) room m piece l = rw (lt-ltb room outbox_needed l)

module _ (most room : ℕ) (m : Monitor) (piece : List ℕ) (l : outbox_needed ≤ room) where
  pub runs-more : writes_report (called m piece []).outcome.answer ≡ true
      → runs_within (suc most) room m piece
      ≡ reported_then (called m piece [])
      (runs_within most (room - length (called m piece []).outbox) (called m piece []).outcome.monitor
      (drop (called m piece []).outcome.used piece))
  unfolding runs_within
  runs-more e = rw (le-ltb room outbox_needed l, e)

  pub runs_last : writes_report (called m piece []).outcome.answer ≡ false
      → runs_within (suc most) room m piece ≡ reported_last (called m piece [])
  unfolding runs_within
  runs_last e = rw (le-ltb room outbox_needed l, e)

  -- a monitor put in order runs as the one handed in
  pub runs-in-order : runs_within (suc most) room (holding m.hall (holds m)) piece ≡ runs_within (suc most) room m piece
  unfolding runs_within
  runs-in-order = rw (le-ltb room outbox_needed l, called-in-order m (holds m) piece [] refl)

-- no more of the piece is used than there is
pub runs-within : (most room : ℕ) (m : Monitor) (piece : List ℕ) → (runs_within most room m piece).used ≤ length piece
unfolding runs_within
runs-within zero room m piece = omega arith
runs-within (suc most) room m piece = ⊎_elim (λ l. rw (runs-full (suc most) room m piece l) (omega arith))
    (λ l. by-test (writes_report (called m piece []).outcome.answer)
    (λ e.
    let u = used-within m piece [] in
    let w = runs-within most (room - length (called m piece []).outbox) (called m piece []).outcome.monitor
    (drop (called m piece []).outcome.used piece) in
    rw (runs-more most room m piece l e) (omega (arith, length-drop (called m piece []).outcome.used piece)))
    (λ e. rw (runs_last most room m piece l e) (used-within m piece [])))
    (below_or room outbox_needed)
