-- `feed::reader::all_noise` meets its contract. Assumes nothing.
use Rattle.std.proofs.Common.{◌≡◌, not, eqb, length, get_or, ap, ◌∙◌, arith, rules}
use Rattle.bits.specs.Bit.{every}
use Rattle.bits.proofs.Every.{every_more}
use Rattle.feed.specs.Size.{mark_byte}
use Rattle.feed.proofs.reader.all_noise.Goals as goal

pub loop-b-init : goal.loop-b-init
unfolding every
loop-b-init c = search rules

pub loop-b-preserved : goal.loop-b-preserved
loop-b-preserved c =
    let s = c.args.s.now in
    every_more c.loop-b.b-index (λ j. not (eqb (get_or s j 0) mark_byte)) c.loop-b.noise c.loop-b.invariant

pub returns : goal.returns
returns c =
    let s = c.args.s.now in
    let e : c.loop-b.b-index ≡ length s = omega arith in
    c.loop-b.invariant ∙ ap (λ i. every i (λ j. not (eqb (get_or s j 0) mark_byte))) e
