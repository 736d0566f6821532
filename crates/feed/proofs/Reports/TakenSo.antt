-- What the condition of answer 0 says of a record holds of each record taken. Assumes nothing.
use Rattle.std.proofs.Common.{◌≡◌, ℕ, ◌+◌, Bool, true, false, cond, List, [], ◌∷◌, ◌++◌, length, refl, subst}
use Rattle.cycle.specs.Size.{string_count}
use Rattle.cycle.specs.Answers.{is_taken}
use Rattle.cycle.specs.Map.{FitMap, refused}
use Rattle.cycle.specs.declared.answer.Answer.TheVariants.{Taken}
use Rattle.cycle.specs.declared.hall.Hall.{Hall}
use Rattle.cycle.specs.declared.map.Masks.{Masks}
use Rattle.cycle.proofs.Answers.{taken-only}
use Rattle.feed.specs.Heard.{Heard, Each, reached_by}
use Rattle.feed.specs.Settled.{record_in}
use Rattle.feed.specs.Answered.{apart, Condition}
use Rattle.feed.specs.Call.{holds}
use Rattle.feed.specs.Calls.{Made, monitor_after, answer_of, taken_records}
use Rattle.feed.specs.declared.call.Monitor.{Monitor}
use Rattle.feed.proofs.Answers.Answered.{answers-exactly}
use Rattle.feed.proofs.Calls.CallRuns.{calls-kept, kept-number}

pub each-so : {P Q : Heard → Type 0} → ((t : Heard) → P t → Q t) → (ts : List Heard) → Each P ts → Each Q ts
each-so f [] h = tt
each-so f (t ∷ ts) h = (f t h.0, each-so f ts h.1)

module _ (masks : List Masks) (fit : FitMap masks) (accepted : refused string_count masks ≡ false) (P : Heard → Type 0)
    (so : (h : Hall) (room : ℕ) (r : List ℕ) → h.masks ≡ masks → Condition Taken h room r
    → P (record { n = h.n + apart h.n r; bytes = r })) where
  pub taken-so : (cs : List Made) → Each P (taken_records masks cs)
  unfolding taken_records
  taken-so [] = tt
  taken-so (c ∷ cs) = by (is_taken (answer_of masks c cs)) refl (taken-so cs)
    where
      m : Monitor
      m = monitor_after masks cs

      r : List ℕ
      r = record_in (holds m ++ c.piece)

      ts : List Heard
      ts = taken_records masks cs

      by : (b : Bool) → is_taken (answer_of masks c cs) ≡ b → Each P ts
          → Each P (cond b (record { n = reached_by ts + apart (reached_by ts) r; bytes = r } ∷ ts) ts)
      by true e before =
          let kept = calls-kept masks fit accepted cs in
          let taken = (answers-exactly m c.piece c.outbox Taken).0 (taken-only (answer_of masks c cs) e) in
          let this = so m.hall (length c.outbox) r kept.run.told.map taken in
          (subst (λ (n : ℕ). P (record { n = n + apart n r; bytes = r })) (kept-number kept) this, before)
      by false e before = before
