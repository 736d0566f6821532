-- `writer::record::put_common` meets its contract. Assumes nothing.
use mathlib.Core.Path.{refl, ap, ap₂, ◌∙◌}
use mathlib.Core.List.{List, ◌++◌}
use Prim.Native.Nat.{ℕ, ◌*◌}
use borrow.Author.Rules.{rules}
use lib.ListN.{length, drop}
use Rattle.cycle.specs.Size.{string_count}
use Rattle.cycle.specs.Hall.{no_sample}
use Rattle.feed.specs.Size.{samples_from, sample_length}
use Rattle.writer.specs.RecordBytes.{samples_bytes, common_bytes}
use Rattle.writer.proofs.Lengths.{head-length}
use Rattle.writer.proofs.Laid.{lay-rest}
use Rattle.feed.proofs.Reports.PutEach.{each-parts}
use Rattle.writer.proofs.record.put_common.Goals as goal

pub returns : goal.returns
unfolding common_bytes samples_bytes
returns c =
    let a = c.args in
    let d = a.b.now in
    let h = c.put_head.new.b in
    let s = c.put_each.new.b in
    let e = c.put_head.ensures in
    lay-rest d h s (h ++ drop samples_from d) samples_from (sample_length * string_count) refl
    (ap length e ∙ head-length a.mark a.r.wire a.r.path) c.requires
    ∙ ap₂ (λ (x y : List ℕ). x ++ y) e
    (c.put_each.ensures ∙ each-parts _ a.r.samples no_sample string_count (search (rules, c.well_formed)))
