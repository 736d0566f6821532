-- `calls::layout::put_hall` meets its contract. Assumes nothing.
use Rattle.std.proofs.Common.{refl, ◌∙◌, rules}
use Rattle.cycle.specs.Size.{string_count, module_count}
use Rattle.cycle.specs.Map.{past_masks}
use Rattle.cycle.specs.Hall.{past_string}
use Rattle.cycle.specs.Banks.{no_bank}
use Rattle.feed.specs.Bytes.{in_four}
use Rattle.feed.proofs.Reports.Written.{put-part}
use Rattle.calls.specs.Layout.{masks_from}
use Rattle.feed.proofs.Reports.PutEach.{each-parts}
use Rattle.calls.proofs.Laid.{hall-laid}
use Rattle.calls.proofs.layout.put_hall.Goals as goal

pub returns : goal.returns
returns c =
    let d = c.args.b.now in
    let h = c.args.h in
    let y = c.put_four.new.s in
    hall-laid d h y c.put_each.new.b c.put_each-2.new.b c.put_each-3.new.b c.requires
    (put-part (in_four h.n) d y 0 masks_from refl (search rules) c.put_four.ensures)
    (c.put_each.ensures ∙ each-parts _ h.masks past_masks string_count (search (rules, c.well_formed)))
    (c.put_each-2.ensures ∙ each-parts _ h.strings past_string string_count (search (rules, c.well_formed)))
    (c.put_each-3.ensures ∙ each-parts _ h.banks no_bank module_count (search (rules, c.well_formed)))
