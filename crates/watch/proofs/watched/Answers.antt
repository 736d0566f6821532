-- `watch::watched` meets its contract: there are a feed and calls that hand in what has been read, and the monitor is the one after them.
-- Assumes nothing.
use Rattle.std.proofs.Common.{◌≡◌, ℕ, ◌+◌, ◌-◌, ◌%◌, ◌^◌, ◌≤◌, List, length, take, drop, sym, refl, ap, ◌∙◌, arith, length-drop, length-take}
use Rattle.std.proofs.lemmas.Bool.{not-true}
use Rattle.feed.specs.Size.{map_length, outbox_needed}
use Rattle.feed.specs.Call.{runs}
use Rattle.feed.specs.declared.call.Monitor.{Monitor}
use Rattle.feed.proofs.Calls.RunLaws.{runs-within}
use Rattle.watch.proofs.Watching.{begins, reported, goes_on, goes-on-read, at_places}
use Rattle.watch.proofs.watched.Goals as goal
use Rattle.watch.proofs.watched.Goals.{then-not-r+in-Ok-read_ready, else-not-r}

pub loop-turns-init : goal.loop-turns-init
loop-turns-init g c =
    let left = take (c.args.read - map_length) (drop map_length c.args.input.now) in
    let there = c.requires.map_length_le_read in
    let long : length left ≡ c.args.read - map_length = simp (length-take, length-drop) (omega (arith, there)) in
    let fed : c.args.read - map_length ≡ length left % 2 ^ 64 = omega (arith, long, c.ranges.read.fits) in
    (refl, refl, there.0, there.1, begins c.args.start _ c.requires.fresh _ left fed, refl)

-- a run uses no more than is there
run-used : (room at n used : ℕ) (m : Monitor) (input : List ℕ) → used ≡ (runs room m (take (n - at) (drop at input))).used → at ≤ n
    → at + used ≤ n
run-used room at n used m input e before =
    let there : used ≤ length (take (n - at) (drop at input)) = rw e (runs-within room room m (take (n - at) (drop at input))) in
    let most : length (take (n - at) (drop at input)) ≤ n - at = simp length-take (omega arith) in
    omega arith

pub write_reports-requires : goal.write_reports-requires
write_reports-requires g c =
    let l = c.loop-turns in
    let room : outbox_needed ≤ length l.out = omega (arith, c.requires.outbox_needed_in_bounds, l.invariant.1) in
    reported c.args.start l.m l.turns l.fed l.told l.at l.n l.input l.out c.run-r.result c.run-r.new.out l.invariant.4 room c.run-r.ensures

pub overflow_add-at : goal.overflow_add-at
overflow_add-at g c =
    let l = c.loop-turns in
    let used = run-used (length l.out) l.at l.n c.run-r.result.used l.m l.input c.run-r.ensures.used l.invariant.2 in
    omega (arith, l.auto.n-fits)

pub loop-turns-preserved : goal.loop-turns-preserved
loop-turns-preserved g c =
    let l = c.loop-turns in
    let start = c.args.start in
    let ran = c.run-r.ensures in
    let room : outbox_needed ≤ length l.out = omega (arith, c.requires.outbox_needed_in_bounds, l.invariant.1) in
    let out_long = c.run-r.auto.out ∙ l.invariant.1 in
    let used = run-used (length l.out) l.at l.n c.run-r.result.used l.m l.input ran.used l.invariant.2 in
    elim c.if-not-r.branch [
      | then-not-r+in-Ok-read_ready w ↦
          let got = w.in-Ok-read_ready.ensures.told.within in
          let long = w.read_ready.auto.buf ∙ l.invariant.0 in
          let next = take (c.if-not-r.n - c.if-not-r.at) (drop c.if-not-r.at c.if-not-r.input) in
          let whole : length next ≡ w.in-Ok-read_ready.got.bytes =
          simp (length-take, length-drop) (omega (arith, got, w.at-is, w.n-is, ap length w.input-is)) in (
            ap length w.input-is ∙ long,
            out_long,
            omega (arith, w.at-is, w.n-is),
            omega (arith, w.n-is, got, ap length w.input-is),
            goes-on-read start l.m l.turns l.fed l.told l.at l.n l.input l.out c.run-r.result c.run-r.new.out l.invariant.4 room ran _ _
                c.if-not-r.fed c.in-Ok.ensures.all refl (not-true _ w.if-not-r.true) next
                (w.fed-is ∙ ap (λ (k : ℕ). (l.fed + k) % 2 ^ 64) (sym whole)),
            refl,
          )
      | else-not-r w ↦ (
        ap length w.input-is ∙ l.invariant.0,
        out_long,
        omega (arith, w.at-is, w.n-is, used),
        omega (arith, w.n-is, l.invariant.3, ap length w.input-is),
        at_places start _ _ _ _ _ _ _ _ _ _ _ w.input-is w.at-is w.n-is w.fed-is
            (goes_on start l.m l.turns l.fed l.told l.at l.n l.input l.out c.run-r.result c.run-r.new.out l.invariant.4 room ran _ _
            c.in-Ok.ensures.all refl l.invariant.2 l.invariant.3 used),
        refl,
      )
    ]
