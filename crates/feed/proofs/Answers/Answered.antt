-- Demand 1 of a call: each answer exactly under its condition. Assumes nothing.
use Rattle.std.proofs.Common.{◌≡◌, ℕ, ◌+◌, ◌%◌, ◌<◌, ◌≤◌, true, false, ◌⊎◌, ◌↔◌, List, [], ◌++◌, length, sym, ◌∙◌, subst, inl, inr, arith}
use native.Mathlib.Decide.{ℕ_discrete, dec_lt}
use Rattle.bits.proofs.Yes.{not-both}
use Rattle.cycle.specs.Size.{major_every, last_count, stale_from}
use Rattle.cycle.specs.declared.answer.Answer.{Answer}
use Rattle.cycle.specs.declared.answer.Answer.TheVariants.{Taken, Stale, Repeat, CountEnded, WrongKind, OutboxShort}
use Rattle.cycle.specs.declared.answer.Answer.TheVariants.{BothWays, NothingSettled}
use Rattle.cycle.specs.Records.{Record}
use Rattle.cycle.specs.Hall.{record_both_ways}
use Rattle.cycle.specs.declared.hall.Hall.{Hall}
use Rattle.cycle.proofs.BothWays.{names-exactly}
use Rattle.feed.specs.Values.{values_of}
use Rattle.feed.specs.Size.{outbox_needed}
use Rattle.feed.specs.Good.{WholeRecord}
use Rattle.feed.specs.Settled.{record_in}
use Rattle.feed.specs.Answered.{apart, Ahead, Matched, BothWaysSaid, Condition}
use Rattle.feed.specs.Call.{holds, call}
use Rattle.feed.specs.declared.call.Monitor.{Monitor}
use Rattle.feed.proofs.Records.Lengths.{by-test, below_or}
use Rattle.feed.proofs.Records.BothWaysHeard.{both-ways-heard}
use Rattle.feed.proofs.Records.Goods.{whole-some}
use Rattle.feed.proofs.Reading.FirstRecord.{record-or}
use Rattle.feed.proofs.Answers.Fixed.{condition-answers}

-- ---- some condition holds

module _ (h : Hall) (room : ℕ) (r : List ℕ) where
  abbrev Some : Type 0
  Some = (a : Answer) × Condition a h room r

  abbrev new : ℕ
  new = h.n + apart h.n r

  by-requests : outbox_needed ≤ room → Ahead h.n r → new ≤ last_count → Matched new r → Some
  by-requests l f m k =
      by-test (record_both_ways h.masks values) (λ t. (BothWays, (l, f, m, k, named t))) (λ t. (Taken, (l, f, m, k, unnamed t)))
    where
      values : Record
      values = values_of r

      named : record_both_ways h.masks values ≡ true → BothWaysSaid h.masks r
      named t = (both-ways-heard h.masks r).0 ((names-exactly h.masks values).0 t)

      unnamed : record_both_ways h.masks values ≡ false → BothWaysSaid h.masks r → ⊥
      unnamed t x = not-both (record_both_ways h.masks values) ((names-exactly h.masks values).1 ((both-ways-heard h.masks r).1 x)) t

  by-kinds : outbox_needed ≤ room → Ahead h.n r → new ≤ last_count → Dec (new % major_every ≡ 0) → WholeRecord r → Some
  by-kinds l f m (yes e) (inl w) = (WrongKind, (l, f, m, inl (e, w.mark.1)))
  by-kinds l f m (yes e) (inr w) = by-requests l f m (inl (e, w.mark.1))
  by-kinds l f m (no e) (inl w) = by-requests l f m (inr (e, w.mark.1))
  by-kinds l f m (no e) (inr w) = (WrongKind, (l, f, m, inr (e, w.mark.1)))

  by_count : outbox_needed ≤ room → Ahead h.n r → Dec (last_count < new) → WholeRecord r → Some
  by_count l f (yes e) w = (CountEnded, (l, f, e))
  by_count l f (no e) w = by-kinds l f (omega arith) (ℕ_discrete (new % major_every) 0) w

  by-distance : outbox_needed ≤ room → 0 < length r → Dec (apart h.n r ≡ 0) → Dec (apart h.n r < stale_from) → WholeRecord r → Some
  by-distance l p (yes e) x w = (Repeat, (l, p, e))
  by-distance l p (no e) (yes b) w =
      by_count l (record { settled = p; not_repeat = omega arith; not_stale = b }) (dec_lt last_count new) w
  by-distance l p (no e) (no b) w = (Stale, (l, p, omega arith))

  by-record : outbox_needed ≤ room → (r ≡ []) ⊎ WholeRecord r → Some
  by-record l (inl e) = (NothingSettled, (l, e))
  by-record l (inr w) = by-distance l (whole-some r w) (ℕ_discrete (apart h.n r) 0) (dec_lt (apart h.n r) stale_from) w

  some-condition : (room < outbox_needed) ⊎ (outbox_needed ≤ room) → (r ≡ []) ⊎ WholeRecord r → Some
  some-condition (inl l) w = (OutboxShort, l)
  some-condition (inr l) w = by-record l w

pub answers-exactly : (m : Monitor) (piece out : List ℕ) (a : Answer)
    → ((call m piece out).outcome.answer ≡ a) ↔ Condition a m.hall (length out) (record_in (holds m ++ piece))
answers-exactly m piece out a = (to, condition-answers m piece out a)
  where
    to : (call m piece out).outcome.answer ≡ a → Condition a m.hall (length out) (record_in (holds m ++ piece))
    to e =
        let x = some-condition m.hall (length out) (record_in (holds m ++ piece)) (below_or (length out) outbox_needed)
        (record-or (holds m ++ piece)) in
        subst (λ (b : Answer). Condition b m.hall (length out) (record_in (holds m ++ piece)))
        (sym (condition-answers m piece out x.0 x.1) ∙ e) x.1
