-- `feed::call::Monitor::call` meets its contract. Assumes nothing.
use Rattle.std.proofs.Common.{◌≡◌, ℕ, ◌≤◌, length, sym, ◌∙◌, arith, rules, lt-ltb}
use Rattle.feed.specs.Size.{store_length, most_held}
use Rattle.feed.specs.Reader.{held_count}
use Rattle.feed.specs.Call.{call}
use Rattle.feed.proofs.Calls.Calling.{put-in-order, held-short, call-called, called-in-order, turned-outcome}
use Rattle.feed.proofs.call.Monitor.call.Goals as goal

pub returns-then-out-lt-OUTBOX_NEEDED : goal.returns-then-out-lt-OUTBOX_NEEDED
unfolding call
returns-then-out-lt-OUTBOX_NEEDED c = record {
  value = rw (lt-ltb _ _ c.if-out-lt-OUTBOX_NEEDED.true);
  out_after = rw (lt-ltb _ _ c.if-out-lt-OUTBOX_NEEDED.true);
}

-- no more is held than the store has room for
few : (count claimed : ℕ) → count ≡ held_count claimed → count ≤ most_held
few count claimed e = rw e (held-short claimed)

pub slice_bounds-fill-count : goal.slice_bounds-fill-count
slice_bounds-fill-count c = omega (arith, few c.held_count-n.result c.args.self.count c.held_count-n.ensures)

pub slice_bounds-b-start : goal.slice_bounds-b-start
slice_bounds-b-start c = omega (arith, few c.held_count-n.result c.args.self.count c.held_count-n.ensures)

pub slice_bounds-b-end : goal.slice_bounds-b-end
slice_bounds-b-end c = let long : length c.args.self.held ≡ store_length = search rules in omega arith

pub slice_bounds-turn-end : goal.slice_bounds-turn-end
slice_bounds-turn-end c =
    let m = c.args.self in
    let long : length m.held ≡ store_length = search rules in
    sym (put-in-order m.count m.held c.held_count-n.result c.fill.new.self long c.held_count-n.ensures (c.fill.ensures.after (λ y e. e))).long

pub turn-t-requires : goal.turn-t-requires
turn-t-requires c =
    let m = c.args.self in
    let long : length m.held ≡ store_length = search rules in
    let x = put-in-order m.count m.held c.held_count-n.result c.fill.new.self long c.held_count-n.ensures (c.fill.ensures.after (λ y e. e)) in
    record {
      b_len = x.long;
      count_le_most_held = (x.short, x.order);
      from_in_bounds = (omega arith, c.if-out-lt-OUTBOX_NEEDED.false);
    }

pub returns : goal.returns
returns c =
    let a = c.args in
    let m = a.self in
    let long : length m.held ≡ store_length = search rules in
    let x = put-in-order m.count m.held c.held_count-n.result c.fill.new.self long c.held_count-n.ensures (c.fill.ensures.after (λ y e. e)) in
    let e = call-called m a.piece.now a.out.now c.if-out-lt-OUTBOX_NEEDED.false
    ∙ sym (called-in-order m _ a.piece.now a.out.now x.same) in
    let t = c.turn-t.ensures in
    record { value = rw (e, c.unwrap_or.ensures) (turned-outcome _ c.turn-t.result _ _ t); out_after = rw e t.outbox }
