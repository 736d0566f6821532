-- `plainwatch::watched` meets its contract: there are a feed and calls that hand in what has been read, and the monitor is the plain one
-- after them. Assumes nothing.
use Rattle.std.proofs.Common.{◌≡◌, ℕ, ◌+◌, ◌-◌, ◌%◌, ◌^◌, ◌≤◌, List, length, take, drop, sym, refl, ap, ◌∙◌, arith, length-drop, length-take}
use Rattle.feed.specs.Size.{map_length, outbox_needed}
use Rattle.plain.specs.Call.{call}
use Rattle.plain.specs.declared.call.PlainMonitor.{PlainMonitor}
use Rattle.plainwatch.specs.Watched.{Watched}
use Rattle.plainwatch.proofs.Watching.{begins, call-within, reported, goes_on, goes-on-read, at_places}
use Rattle.plainwatch.proofs.watched.Goals as goal
use Rattle.plainwatch.proofs.watched.Goals.{then-w-eq0+in-Ok-read_ready, else-w-eq0}
use Rattle.feed.specs.declared.call.Outcome.{Outcome}

pub loop-turns-init : goal.loop-turns-init
loop-turns-init g c =
    let left = take (c.args.read - map_length) (drop map_length c.args.input.now) in
    let there = c.requires.map_length_le_read in
    let long : length left ≡ c.args.read - map_length = simp (length-take, length-drop) (omega (arith, there)) in
    let fed : c.args.read - map_length ≡ length left % 2 ^ 64 = omega (arith, long, c.ranges.read.fits) in
    (refl, refl, there.0, there.1, begins c.args.start _ c.requires.fresh _ left fed, refl)

-- a call uses no more than is there
call-used : (start m : PlainMonitor) (turns fed told at n : ℕ) (r : Outcome PlainMonitor) (input out : List ℕ)
    → Watched start m turns fed told (take (n - at) (drop at input)) → outbox_needed ≤ length out
    → r ≡ (call m (take (n - at) (drop at input)) out).outcome → at ≤ n → at + r.used ≤ n
call-used start m turns fed told at n r input out w enough e before =
    let p = take (n - at) (drop at input) in
    let there : r.used ≤ length p = rw e (call-within start m turns fed told p out w enough) in
    let most : length p ≤ n - at = simp length-take (omega arith) in
    omega arith

pub write_report-requires : goal.write_report-requires
write_report-requires g c =
    let l = c.loop-turns in
    let room : outbox_needed ≤ length l.out = omega (arith, c.requires.outbox_needed_in_bounds, l.invariant.1) in
    reported c.args.start l.m l.turns l.fed l.told l.at l.n l.input l.out
    c.call-r.result c.call-r.new.out c.written-w.result l.invariant.4 room c.call-r.ensures.value
    c.call-r.ensures.out_after c.written-w.ensures

pub overflow_add-at : goal.overflow_add-at
overflow_add-at g c =
    let l = c.loop-turns in
    let room : outbox_needed ≤ length l.out = omega (arith, c.requires.outbox_needed_in_bounds, l.invariant.1) in
    let used = call-used c.args.start l.m l.turns l.fed l.told l.at l.n c.call-r.result l.input l.out l.invariant.4 room
    c.call-r.ensures.value l.invariant.2 in
    omega (arith, l.auto.n-fits)

pub loop-turns-preserved : goal.loop-turns-preserved
loop-turns-preserved g c =
    let l = c.loop-turns in
    let start = c.args.start in
    let ran = c.call-r.ensures.value in
    let after = c.call-r.ensures.out_after in
    let wrote = c.written-w.ensures in
    let room : outbox_needed ≤ length l.out = omega (arith, c.requires.outbox_needed_in_bounds, l.invariant.1) in
    let out_long = c.call-r.auto.out ∙ l.invariant.1 in
    let used = call-used start l.m l.turns l.fed l.told l.at l.n c.call-r.result l.input l.out l.invariant.4 room
    ran l.invariant.2 in
    elim c.if-w-eq0.branch [
      | then-w-eq0+in-Ok-read_ready w ↦
          let got = w.in-Ok-read_ready.ensures.told.within in
          let long = w.read_ready.auto.buf ∙ l.invariant.0 in
          let next = take (c.if-w-eq0.n - c.if-w-eq0.at) (drop c.if-w-eq0.at c.if-w-eq0.input) in
          let whole : length next ≡ w.in-Ok-read_ready.got.bytes =
          simp (length-take, length-drop) (omega (arith, got, w.at-is, w.n-is, ap length w.input-is)) in (
            ap length w.input-is ∙ long,
            out_long,
            omega (arith, w.at-is, w.n-is),
            omega (arith, w.n-is, got, ap length w.input-is),
            goes-on-read start l.m l.turns l.fed l.told l.at l.n l.input l.out c.call-r.result c.call-r.new.out c.written-w.result
                l.invariant.4 room ran after wrote _ _ c.if-w-eq0.fed c.in-Ok.ensures.all refl w.if-w-eq0.true next
                (w.fed-is ∙ ap (λ (k : ℕ). (l.fed + k) % 2 ^ 64) (sym whole)),
            refl,
          )
      | else-w-eq0 w ↦ (
        ap length w.input-is ∙ l.invariant.0,
        out_long,
        omega (arith, w.at-is, w.n-is, used),
        omega (arith, w.n-is, l.invariant.3, ap length w.input-is),
        at_places start _ _ _ _ _ _ _ _ _ _ _ w.input-is w.at-is w.n-is w.fed-is
            (goes_on start l.m l.turns l.fed l.told l.at l.n l.input l.out c.call-r.result c.call-r.new.out c.written-w.result
            l.invariant.4 room ran after wrote _ _ c.in-Ok.ensures.all refl l.invariant.2 l.invariant.3 used),
        refl,
      )
    ]
