-- `writer::record::put_major` meets its contract. Assumes nothing.
use mathlib.Core.Path.{◌≡◌, ap, sym, ◌∙◌}
use Rattle.std.proofs.Common.{length-take-le}
use mathlib.Core.List.{◌++◌}
use borrow.Author.Rules.{rules}
use Prim.Native.Nat.{ℕ, ◌-◌, ◌*◌}
use native.Mathlib.Omega.{arith}
use borrow.Rule.Slice.PartMut.{put_mid}
use lib.ListN.{length, take, drop}
use Rattle.cycle.specs.Size.{string_count, module_count}
use Rattle.cycle.specs.Banks.{no_quantities}
use Rattle.cycle.specs.Hall.{no_temperatures, no_requests}
use Rattle.feed.specs.Size.{major_mark, minor_summed, temperatures_from, temperatures_length, requests_from, requests_length, drops_from}
use Rattle.feed.specs.Size.{quantities_from, quantities_length, major_summed, sum_length}
use Rattle.writer.specs.RecordBytes.{temperatures_bytes, requests_bytes, quantities_bytes, before_sum, summed, bytes_of}
use Rattle.writer.proofs.Lengths.{common-length, temperatures-length, requests-length, drops-length, quantities-length}
use Rattle.writer.proofs.Laid.{major-laid}
use Rattle.feed.proofs.Reports.PutEach.{each-parts}
use Rattle.writer.proofs.record.put_major.Goals as goal

pub slice_bounds-put_common-end-2 : goal.slice_bounds-put_common-end-2
slice_bounds-put_common-end-2 c = sym (length-take-le minor_summed c.args.b.now (omega arith))

pub returns : goal.returns
unfolding bytes_of before_sum temperatures_bytes requests_bytes quantities_bytes
returns c =
    let r = c.args.r in
    let d = c.args.b.now in
    let y = c.put_common.new.b in
    let t = c.put_each.new.b in
    let a = c.put_each-2.new.b in
    let o = c.put_drops.new.b in
    let q = c.put_each-3.new.b in
    let ey = c.put_common.ensures in
    let et = c.put_each.ensures ∙ each-parts _ r.temperatures no_temperatures string_count (search (rules, c.well_formed)) in
    let ea = c.put_each-2.ensures ∙ each-parts _ r.requests no_requests string_count (search (rules, c.well_formed)) in
    let eo = c.put_drops.ensures in
    let eq = c.put_each-3.ensures ∙ each-parts _ r.quantities no_quantities module_count (search (rules, c.well_formed)) in
    let x = put_mid quantities_from (quantities_length * module_count)
    (put_mid drops_from string_count
    (put_mid requests_from (requests_length * string_count)
    (put_mid temperatures_from (temperatures_length * string_count) (y ++ drop minor_summed d) t) a) o) q in
    let long : length x - sum_length ≡ major_summed =
    omega (
      arith,
      c.b-5-1.given.1,
      c.b-4-1.given.1,
      c.b-3-1.given.1,
      c.b-2-1.given.1,
      c.b-1.given.1,
      c.requires,
    ) in
    c.put_sum.ensures
    ∙ ap (λ (k : ℕ). summed (take k x)) long
    ∙ ap summed
    (major-laid d y t a o q (ap length ey ∙ common-length major_mark r.minor) (ap length et ∙ temperatures-length r.temperatures)
    (ap length ea ∙ requests-length r.requests) (ap length eo ∙ drops-length r.requests)
    (ap length eq ∙ quantities-length r.quantities)
    ∙ (λ i. ey i ++ (et i ++ (ea i ++ (eo i ++ eq i)))))
