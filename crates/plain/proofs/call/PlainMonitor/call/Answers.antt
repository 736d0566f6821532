-- `plain::call::PlainMonitor::call` meets its contract. Assumes nothing.
use mathlib.Core.Path.{ap, ◌∙◌}
use Prim.Native.Nat.{◌≤◌}
use lib.ListN.{length}
use Rattle.feed.specs.Size.{outbox_needed}
use Rattle.feed.specs.Report.{report_shown, into_outbox}
use Rattle.feed.specs.declared.report.Shown.{Shown}
use Rattle.plain.proofs.Calling.{settled-marked, call_none, call-some}
use borrow.Author.Tests.{lt-ltb}
use Rattle.plain.specs.Call.{call}
use Rattle.plain.proofs.call.PlainMonitor.call.Goals as goal
use Rattle.plain.proofs.call.PlainMonitor.call.Goals.{After-next-x}

room : (c : goal.After-next-x) → outbox_needed ≤ length c.args.out.now
room c = c.if-out-lt-OUTBOX_NEEDED.false

pub returns-then-out-lt-OUTBOX_NEEDED : goal.returns-then-out-lt-OUTBOX_NEEDED
unfolding call
returns-then-out-lt-OUTBOX_NEEDED c = record {
  value = rw (lt-ltb _ _ c.if-out-lt-OUTBOX_NEEDED.true);
  out_after = rw (lt-ltb _ _ c.if-out-lt-OUTBOX_NEEDED.true);
}

pub returns-in_default : goal.returns-in_default
returns-in_default c =
    let a = c.args in
    let x = call_none a.self a.piece.now a.out.now c.next-x.result c.next-x.ensures (room (goal.at.returns-in_default c).After-next-x)
    c.in_default.is in
    record { value = x.0; out_after = x.1 }

pub step_by-y-requires : goal.step_by-y-requires
step_by-y-requires c =
    let a = c.args in
    settled-marked a.self a.piece.now a.out.now c.next-x.result c.next-x.ensures c.in-Some.kind c.in-Some.is

pub returns : goal.returns
returns c =
    let a = c.args in
    let y = c.step_by-y.result in
    let x = call-some a.self a.piece.now a.out.now c.next-x.result c.next-x.ensures (room (goal.at.returns c).After-next-x)
    c.in-Some.kind c.in-Some.is y c.step_by-y.ensures c.put_shown.new.out
    (c.put_shown.ensures.1
    ∙ ap (λ (x : Shown). into_outbox (report_shown y.answer x) a.out.now) c.shown.ensures) in
    record { value = x.0; out_after = x.1 }
