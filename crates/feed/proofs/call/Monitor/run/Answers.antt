-- `feed::call::Monitor::run` meets its contract. Assumes nothing.
use Rattle.std.proofs.Common.{◌≡◌, ℕ, ◌-◌, ◌<◌, ◌≤◌, true, is_some, List, length, take, sym, ap, ◌∙◌, arith, length-drop, length-take-le, rules}
use borrow.Rule.Slice.PartMut.{put_mid, same_len_mid}
use Rattle.feed.specs.Size.{store_length, most_held, report_length, outbox_needed}
use Rattle.feed.specs.Inside.Calm.{passes_at}
use Rattle.cycle.specs.declared.hall.Hall.{Hall}
use Rattle.feed.specs.Call.{runs}
use Rattle.feed.specs.Reader.{held_count}
use Rattle.feed.specs.declared.call.Monitor.{Monitor}
use Rattle.feed.proofs.Reading.Found.{rest-whole}
use Rattle.feed.proofs.Calls.Calling.{InOrder, put-in-order, held-short}
use Rattle.feed.proofs.Calls.Running.{monitor_at, Loops, loop-starts, out-long, loop-ends, loop-leaves, loop-goes, no_room, put_rest}
use Rattle.feed.proofs.Calls.Running.{runs-start}
use Rattle.feed.proofs.Calls.CalmRuns.{part-kept, calm-room, major-there, major-goes, calm-left}
use Rattle.feed.proofs.Calls.Stretches.{ahead-below, ahead-minor, stretch-starts, stretch-stops, stretch-full, stretch-goes}
use Rattle.feed.proofs.call.Monitor.run.Goals as goal
use Rattle.feed.proofs.call.Monitor.run.Goals.{After-fill, Joined-calm, in-Some+else-loop-left-test+in_default-kept, in_default}

-- ---- the store put in order

abbrev cleared : (held : List ℕ) (n : ℕ) (zeros : List ℕ) → List ℕ
cleared held n zeros = put_mid n (store_length - n) held zeros

few : (count claimed : ℕ) → count ≡ held_count claimed → count ≤ most_held
few count claimed e = rw e (held-short claimed)

ordered : (c : goal.After-fill)
    → InOrder c.args.self.count c.args.self.held (cleared c.args.self.held c.held_count-count.result c.fill.new.self) c.held_count-count.result
ordered c =
    let long : length c.args.self.held ≡ store_length = search rules in
    put-in-order c.args.self.count c.args.self.held c.held_count-count.result c.fill.new.self long c.held_count-count.ensures
    (c.fill.ensures.after (λ y e. e))

-- the loop's run is that of the monitor handed in
same-run : (c : goal.After-fill)
    → runs (length c.args.out.now) (monitor_at c.args.self.hall (cleared c.args.self.held c.held_count-count.result c.fill.new.self) c.held_count-count.result) c.args.piece.now
    ≡ runs (length c.args.out.now) c.args.self c.args.piece.now
same-run c =
    runs-start c.args.self (cleared c.args.self.held c.held_count-count.result c.fill.new.self) c.held_count-count.result
    c.args.piece.now c.args.out.now c.if-out-lt-OUTBOX_NEEDED.false (ordered c)

pub returns-then-out-lt-OUTBOX_NEEDED : goal.returns-then-out-lt-OUTBOX_NEEDED
returns-then-out-lt-OUTBOX_NEEDED c =
    no_room c.args.self c.args.piece.now c.args.out.now c.if-out-lt-OUTBOX_NEEDED.true

pub slice_bounds-fill-count : goal.slice_bounds-fill-count
slice_bounds-fill-count c = omega (arith, few c.held_count-count.result c.args.self.count c.held_count-count.ensures)

pub slice_bounds-b-start : goal.slice_bounds-b-start
slice_bounds-b-start c = omega (arith, few c.held_count-count.result c.args.self.count c.held_count-count.ensures)

pub slice_bounds-b-end : goal.slice_bounds-b-end
slice_bounds-b-end c = let long : length c.args.self.held ≡ store_length = search rules in omega arith

-- ---- the loop

pub loop-written-init : goal.loop-written-init
loop-written-init c =
    (loop-starts c.args.self _ _ _ _ (ordered (goal.at.loop-written-init c).After-fill), tt)

-- what is written lies within the outbox, whose length stays
within : (m : Monitor) (piece outs : List ℕ) (hall : Hall) (b : List ℕ) (count used written : ℕ) (out : List ℕ)
    → Loops m piece outs hall b count used written out → written ≤ length out
within m piece outs hall b count used written out l = omega (arith, out-long _ _ _ _ _ _ _ _ _ l, l.room)

pub overflow_add-written : goal.overflow_add-written
overflow_add-written c =
    omega (arith, within _ _ _ _ _ _ _ _ _ c.loop-written.invariant.0, out-long _ _ _ _ _ _ _ _ _ c.loop-written.invariant.0)

-- ---- calm minor records

pub overflow_sub-piece : goal.overflow_sub-piece
overflow_sub-piece c = c.loop-written.invariant.0.within

pub overflow_sub-out : goal.overflow_sub-out
overflow_sub-out c = within _ _ _ _ _ _ _ _ _ c.loop-written.invariant.0

pub loop-left-init : goal.loop-left-init
loop-left-init c =
    let l = c.loop-written in
    stretch-starts _ _ _ _ _ _ _ _ _ (rw c.in-Some.is at l.invariant.1) l.invariant.0.within (omega (arith, c.loop-written-test.true))
    c.stretch-left.ensures

pub calm_turn-requires : goal.calm_turn-requires
calm_turn-requires c =
    let some = c.loop-left-test.true in
    let x = c.loop-left.invariant in
    record {
      minor_length_in_bounds = (
        omega (arith, x.fed, some),
        calm-room _ _ _ _ _ _ _ _ _ _ (x.loops _ _ c.loop-written.invariant.0) x.calmed (stretch-full _ _ _ _ _ _ _ _ _ _ _ _ _ c.loop-left.invariant),
      );
      turned_jets = x.calmed.jets_of.1;
      n_lt_last_count = (
        ahead-below c.loop-left.hall.n c.loop-left.left x.ahead some,
        ahead-minor c.loop-left.hall.n c.loop-left.left x.ahead some,
      );
    }

pub overflow_add-hall : goal.overflow_add-hall
overflow_add-hall c =
    let n = ahead-below c.loop-left.hall.n c.loop-left.left c.loop-left.invariant.ahead c.loop-left-test.true in
    record { fits = omega arith }

pub overflow_add-used : goal.overflow_add-used
overflow_add-used c = omega (arith, c.loop-left.invariant.fed, c.loop-left-test.true)

pub overflow_add-written-then-calm_turn : goal.overflow_add-written-then-calm_turn
overflow_add-written-then-calm_turn c =
    omega (arith, c.loop-left.invariant.room, out-long _ _ _ _ _ _ _ _ _ (c.loop-left.invariant.loops _ _ c.loop-written.invariant.0))

pub overflow_sub-left : goal.overflow_sub-left
overflow_sub-left c = omega (arith, c.loop-left-test.true)

pub loop-left-smaller-then-calm_turn : goal.loop-left-smaller-then-calm_turn
loop-left-smaller-then-calm_turn c = omega (arith, c.loop-left-test.true)

pub loop-left-preserved-then-calm_turn : goal.loop-left-preserved-then-calm_turn
loop-left-preserved-then-calm_turn c =
    let l = c.loop-left in
    let o = c.calm_turn.new.out in
    let pass : passes_at l.hall l.used c.args.piece.now ≡ true = sym c.calm_turn.ensures.value ∙ c.if-calm_turn.true in
    stretch-goes _ _ _ _ _ _ _ _ _ _ _ _ _ l.invariant c.loop-left-test.true pass o
    (rw pass at c.calm_turn.ensures.out_after) _ _ c.loop-written.invariant.0

-- and where it has not: the outbox is as it was
pub loop-left-smaller : goal.loop-left-smaller
loop-left-smaller c = c.loop-left-test.true

pub loop-left-preserved : goal.loop-left-preserved
loop-left-preserved c =
    let o = c.calm_turn.new.out in
    let fails = sym c.calm_turn.ensures.value ∙ c.if-calm_turn.false in
    rw (part-kept (c.loop-left.written - report_length) c.loop-left.out o (omega (arith, c.loop-left.invariant.room))
    (rw fails at c.calm_turn.ensures.out_after))
    (stretch-stops _ _ _ _ _ _ _ _ _ _ _ _ _ c.loop-left.invariant)

pub overflow_sub-written : goal.overflow_sub-written
overflow_sub-written c = c.loop-left.invariant.calmed.told

pub slice_bounds-calm_turn-count : goal.slice_bounds-calm_turn-count
slice_bounds-calm_turn-count c = omega (arith, c.loop-left.invariant.room)

pub slice_bounds-calm_turn-start : goal.slice_bounds-calm_turn-start
slice_bounds-calm_turn-start c = omega (arith, c.loop-left.invariant.room)

-- ---- a calm major record

pub overflow_sub-written-in-Some : goal.overflow_sub-written-in-Some
overflow_sub-written-in-Some c = c.loop-left.invariant.calmed.told

pub slice_bounds-calm_major-count : goal.slice_bounds-calm_major-count
slice_bounds-calm_major-count c = omega (arith, c.loop-left.invariant.room)

pub slice_bounds-calm_major-start : goal.slice_bounds-calm_major-start
slice_bounds-calm_major-start c = omega (arith, c.loop-left.invariant.room)

pub calm_major-kept-requires : goal.calm_major-kept-requires
calm_major-kept-requires c =
    let x = c.loop-left.invariant in
    let h = x.loops _ _ c.loop-written.invariant.0 in
    record {
      from_in_bounds = (h.within, calm-room _ _ _ _ _ _ _ _ _ _ h x.calmed (stretch-full _ _ _ _ _ _ _ _ _ _ _ _ _ c.loop-left.invariant));
      jets_value = x.calmed.jets_of;
    }

pub overflow_add-used-in-Some-kept : goal.overflow_add-used-in-Some-kept
overflow_add-used-in-Some-kept c =
    let x = c.loop-left.invariant in
    let h = x.loops _ _ c.loop-written.invariant.0 in
    let there = major-there _ _ _ _ _ _ _ _ _ _ h x.calmed (stretch-full _ _ _ _ _ _ _ _ _ _ _ _ _ c.loop-left.invariant) c.in-Some-kept.next c.in-Some-kept.ensures.value in
    omega (arith, there, h.within)

pub overflow_add-written-in-Some-kept : goal.overflow_add-written-in-Some-kept
overflow_add-written-in-Some-kept c =
    omega (arith, c.loop-left.invariant.room, out-long _ _ _ _ _ _ _ _ _ (c.loop-left.invariant.loops _ _ c.loop-written.invariant.0))

pub loop-written-smaller-in-Some-kept : goal.loop-written-smaller-in-Some-kept
loop-written-smaller-in-Some-kept c =
    let x = c.loop-left.invariant in
    omega (arith, x.room, x.on, out-long _ _ _ _ _ _ _ _ _ (c.loop-left.invariant.loops _ _ c.loop-written.invariant.0))

pub loop-written-preserved-in-Some-kept : goal.loop-written-preserved-in-Some-kept
loop-written-preserved-in-Some-kept c =
    let x = c.loop-left.invariant in
    let g = major-goes _ _ _ _ _ _ _ _ _ _ (c.loop-left.invariant.loops _ _ c.loop-written.invariant.0) x.calmed (stretch-full _ _ _ _ _ _ _ _ _ _ _ _ _ c.loop-left.invariant) c.in-Some-kept.next c.in-Some-kept.ensures.value
    c.calm_major-kept.new.out c.in-Some-kept.ensures.out_after in g

-- ---- any other record

-- behind the calm ones, if there are any: the loop keeps what it kept, and there is room for a report
came-here : (c : goal.Joined-calm)
    → Loops (monitor_at c.args.self.hall (cleared c.args.self.held c.held_count-count.result c.fill.new.self) c.held_count-count.result) c.args.piece.now c.args.out.now c.match-calm.hall c.loop-written.b c.loop-written.count c.match-calm.used
    c.match-calm.written c.match-calm.out
    × (outbox_needed ≤ length c.match-calm.out - c.match-calm.written)
    × (c.loop-written.written ≤ c.match-calm.written)
came-here c =
    let l = c.loop-written in
    elim c.match-calm.branch [
      | in-Some+else-loop-left-test+in_default-kept w ↦
          let x = w.loop-left.invariant in
          let kept_out = w.out-is
          ∙ part-kept (w.loop-left.written - report_length) w.loop-left.out w.calm_major-kept.new.out (omega (arith, x.room))
          w.in_default-kept.ensures.out_after in
          rw (kept_out, w.hall-is, w.used-is, w.written-is) (x.loops _ _ l.invariant.0, omega (arith, x.room), x.on)
      | in_default w ↦
          rw (w.out-is, w.hall-is, w.used-is, w.written-is)
          (l.invariant.0, omega (arith, c.loop-written-test.true), omega arith)
    ]

pub slice_bounds-turn-end : goal.slice_bounds-turn-end
slice_bounds-turn-end c = sym c.loop-written.invariant.0.long

pub slice_bounds-turn-count : goal.slice_bounds-turn-count
slice_bounds-turn-count c = within _ _ _ _ _ _ _ _ _ (came-here (goal.at.slice_bounds-turn-count c).Joined-calm).0

pub slice_bounds-turn-start : goal.slice_bounds-turn-start
slice_bounds-turn-start c = within _ _ _ _ _ _ _ _ _ (came-here (goal.at.slice_bounds-turn-start c).Joined-calm).0

pub turn-t-requires : goal.turn-t-requires
turn-t-requires c =
    let l = (came-here (goal.at.turn-t-requires c).Joined-calm).0 in record {
      b_len = l.long;
      count_le_most_held = (l.short, l.order);
      from_in_bounds = (l.within, rw rest-whole (rw (length-drop c.match-calm.written c.match-calm.out) (came-here (goal.at.turn-t-requires c).Joined-calm).1));
    }

pub shape_of-out-in_default-answer : goal.shape_of-out-in_default-answer
shape_of-out-in_default-answer c =
    same_len_mid c.match-calm.written (length c.match-calm.out - c.match-calm.written) c.match-calm.out c.turn-t.new.out
    c.turn-t.auto.out
    ∙ out-long _ _ _ _ _ _ _ _ _ (came-here (goal.at.shape_of-out-in_default-answer c).Joined-calm).0

pub returns-in_default-answer : goal.returns-in_default-answer
returns-in_default-answer c =
    let t = rw rest-whole at c.turn-t.ensures in
    rw (put_rest c.match-calm.written c.match-calm.out c.turn-t.new.out (within _ _ _ _ _ _ _ _ _ (came-here (goal.at.returns-in_default-answer c).Joined-calm).0), ← same-run (goal.at.returns-in_default-answer c).After-fill)
    (loop-leaves _ _ _ _ _ _ _ _ _ (came-here (goal.at.returns-in_default-answer c).Joined-calm).0 c.turn-t.result c.turn-t.new.b c.turn-t.new.out
    (came-here (goal.at.returns-in_default-answer c).Joined-calm).1 t (ap is_some c.in_default-answer.is))

pub overflow_add-written-in-loop-written : goal.overflow_add-written-in-loop-written
overflow_add-written-in-loop-written c =
    omega (arith, within _ _ _ _ _ _ _ _ _ (came-here (goal.at.overflow_add-written-in-loop-written c).Joined-calm).0, out-long _ _ _ _ _ _ _ _ _ (came-here (goal.at.overflow_add-written-in-loop-written c).Joined-calm).0, (came-here (goal.at.overflow_add-written-in-loop-written c).Joined-calm).1)

pub loop-written-smaller : goal.loop-written-smaller
loop-written-smaller c =
    omega (arith, (came-here (goal.at.loop-written-smaller c).Joined-calm).0.room, out-long _ _ _ _ _ _ _ _ _ (came-here (goal.at.loop-written-smaller c).Joined-calm).0, (came-here (goal.at.loop-written-smaller c).Joined-calm).1, (came-here (goal.at.loop-written-smaller c).Joined-calm).2)

pub loop-written-preserved : goal.loop-written-preserved
loop-written-preserved c =
    let written = c.match-calm.written in
    let r = c.turn-t.result in
    let t = rw rest-whole at c.turn-t.ensures in
    let settled = c.in-Some-answer.is in
    let after = c.calm_after-calm in
    rw (put_rest written c.match-calm.out c.turn-t.new.out (within _ _ _ _ _ _ _ _ _ (came-here (goal.at.loop-written-preserved c).Joined-calm).0)) (
      loop-goes _ _ _ _ _ _ _ _ _ (came-here (goal.at.loop-written-preserved c).Joined-calm).0 r c.turn-t.new.b c.turn-t.new.out (came-here (goal.at.loop-written-preserved c).Joined-calm).1 t (ap is_some settled),
      calm-left _ _ _ _ written r c.in-Some-answer.answer _ c.turn-t.new.out (take written c.match-calm.out) (length-take-le written c.match-calm.out (within _ _ _ _ _ _ _ _ _ (came-here (goal.at.loop-written-preserved c).Joined-calm).0))
          t settled after.result after.ensures.0 after.ensures.1,
    )

pub shape_of-out : goal.shape_of-out
shape_of-out c = out-long _ _ _ _ _ _ _ _ _ c.loop-written.invariant.0

pub returns : goal.returns
returns c =
    let full : length c.loop-written.out - c.loop-written.written < outbox_needed = omega (arith, c.loop-written-test.false) in
    rw (← same-run (goal.at.returns c).After-fill) (loop-ends _ _ _ _ _ _ _ _ _ c.loop-written.invariant.0 full)
