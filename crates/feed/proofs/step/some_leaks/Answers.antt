-- `feed::step::some_leaks` meets its contract. Assumes nothing.
use Rattle.std.proofs.Common.{◌≡◌, sym, ◌∙◌, add-one, arith, rules}
use Rattle.bits.specs.Bit.{any}
use Rattle.cycle.specs.Size.{string_count}
use Rattle.feed.proofs.Records.ColdWords.{all-cold-leaks}
use Rattle.feed.proofs.step.some_leaks.Goals as goal

pub loop-k-init : goal.loop-k-init
unfolding any
loop-k-init c = search rules

pub loop-k-preserved : goal.loop-k-preserved
unfolding any
loop-k-preserved c = rw add-one (cc)

-- where all jets are mapped
pub returns-then-all_mapped : goal.returns-then-all_mapped
returns-then-all_mapped c =
    let a = c.args in
    c.cold_among.ensures ∙ all-cold-leaks a.s.now a.mapped (sym c.all_mapped.ensures ∙ c.if-all_mapped.true)

pub returns : goal.returns
returns c = let e : c.loop-k.k ≡ string_count = omega arith in cc
