-- What one call of the instance gives back, by where reading stops and by the hall's step. Assumes nothing.
use mathlib.Core.Path.{◌≡◌, refl, ◌∙◌}
use mathlib.Core.Bool.{true}
use mathlib.Core.List.{List, [], append-nil}
use Prim.Native.Nat.{ℕ, ◌≤◌}
use native.Mathlib.Omega.{arith}
use lib.ListN.{length, take, drop, length-replicate, drop_of_length-le}
use lib.Seq.{take_all}
use Rattle.cycle.specs.declared.answer.Answer.{Answer}
use Rattle.cycle.specs.declared.answer.Answer.TheVariants.{NothingSettled}
use Rattle.cycle.specs.declared.hall.Hall.{Hall}
use Rattle.feed.specs.Size.{outbox_needed}
use Rattle.feed.specs.Format.{length_of, look, settles}
use Rattle.feed.specs.Report.{report_of}
use Rattle.feed.specs.Step.{is_whole}
use Rattle.feed.specs.Call.{holding, called, called_by, call}
use Rattle.feed.specs.declared.format.Look.TheVariants.{Waits}
use Rattle.feed.proofs.Calls.Turning.{holds_same}
use Rattle.feed.proofs.Calls.Calling.{call-called}
use Rattle.feed.proofs.Calls.Steps.{whole-kind, step-whole}
use Rattle.promises.specs.InstanceCalls.{room, Exchanged, gives}
use Rattle.promises.proofs.InstanceReads.{Stopping}
use Rattle.promises.proofs.InstanceSteps.{Stepping}

pub room-enough : outbox_needed ≤ length room
room-enough = omega (arith, length-replicate {A = ℕ} outbox_needed 0xFF)

abbrev pub Gives : Hall → List ℕ → Exchanged → Type 0
Gives h held x = call (holding h held) x.piece room ≡ x.result

-- the call stops where reading does
called_at : (h : Hall) (held piece : List ℕ) (used : ℕ) (left rest : List ℕ) → Stopping held piece used left rest
    → call (holding h held) piece room ≡ called_by (settles (look left)) h (record { left = left; rest = rest }) used room
unfolding called
called_at h held piece used left rest e =
    call-called (holding h held) piece room room-enough ∙ (rw (holds_same h held e.short, e.stop, e.count) refl)

-- it settles nothing, or a record with nothing held behind it
pub idle : (h : Hall) {held piece left : List ℕ} {used : ℕ} → Stopping held piece used left [] → look left ≡ Waits
    → Gives h held (gives piece NothingSettled used h left room)
idle h {held} {piece} {left} {used} e w = rw (called_at h held piece used left [] e, w) refl

pub settling : {h g : Hall} {a : Answer} {held piece r rest report : List ℕ} {used : ℕ} → Stopping held piece used r rest
    → is_whole r ≡ true → Stepping r h a g report → Gives h held (gives piece a used g [] report)
settling {h} {g} {a} {held} {piece} {r} {rest} {report} {used} e w s =
    let x = whole-kind r w in
    let n : ℕ = length_of x.0 in
    let t : take n r ≡ r = take_all n r (omega (arith, x.2)) in
    let d : drop n r ≡ [] = drop_of_length-le r {i = n} (omega (arith, x.2)) in
    called_at h held piece used r rest e
    ∙ (rw (x.1, t, d, step-whole r h w, s.step, append-nil (report_of a g), s.told) refl)
