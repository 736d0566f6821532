-- `feed::report::put_words` meets its contract. Assumes nothing.
use Rattle.std.proofs.Common.{◌+◌, ◌*◌, slice_index, refl, arith, rules}
use Rattle.cycle.specs.Size.{module_count}
use Rattle.feed.specs.Size.{quantity_length}
use Rattle.feed.specs.Bytes.{in_two}
use Rattle.feed.proofs.Reports.Written.{put-part, putting-none, putting-next, putting-end}
use Rattle.feed.proofs.report.put_words.Goals as goal

pub loop-m-init : goal.loop-m-init
loop-m-init c = putting-none _ _ _ _ _

pub loop-m-preserved : goal.loop-m-preserved
loop-m-preserved c =
    let a = c.args in
    let y = c.put_two.new.s in
    let e =
    put-part (in_two (slice_index a.words c.loop-m.m)) c.loop-m.out y (a.from + quantity_length * c.loop-m.m)
    (a.from + quantity_length * c.loop-m.m + quantity_length) refl (search rules) c.put_two.ensures in
    putting-next a.out.now a.from quantity_length module_count _ c.loop-m.out y c.loop-m.m (λ k. refl)
    (omega (arith, c.requires)) c.loop-m.invariant (omega arith) e (search rules)

pub returns : goal.returns
returns c =
    let a = c.args in
    putting-end a.out.now a.from quantity_length module_count _ _ _ c.loop-m.invariant (omega arith)
