-- `plain::string::PlainString::close_word` meets its contract. Assumes nothing.
use borrow.Author.Rules.{rules}
use mathlib.Core.Path.{refl, ◌∙◌}
use mathlib.Core.Bool.{false}
use native.Mathlib.Numerals.{add-one}
use native.Mathlib.Omega.{arith}
use lib.ListN.{get_or}
use Rattle.bits.specs.Bit.{pack}
use Rattle.bits.proofs.Words.{pack-next}
use Rattle.plain.specs.Shown.{close_word}
use Rattle.plain.proofs.string.PlainString.close_word.Goals as goal

pub loop-i-init : goal.loop-i-init
unfolding close_word pack
loop-i-init c = search rules

pub loop-i-preserved : goal.loop-i-preserved
unfolding close_word
loop-i-preserved c =
    let at = c.loop-i in
    let a = c.args in
    rw add-one
    (c.with_bit-w.ensures ∙ pack-next at.i at.w (λ i. get_or a.self.close i false) _ (omega arith) at.invariant refl)
