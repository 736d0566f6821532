-- `plain::string::PlainString::fail_word` meets its contract. Assumes nothing.
use borrow.Author.Rules.{rules}
use mathlib.Core.Path.{ap, ◌∙◌}
use mathlib.Core.Bool.{Bool, ◌&&◌}
use native.Mathlib.Numerals.{add-one}
use Rattle.bits.specs.Bit.{pack}
use Rattle.bits.proofs.Words.{pack-next}
use native.Mathlib.Omega.{arith}
use Rattle.plain.specs.Jet.{mapped_jet}
use Rattle.plain.specs.String.{jet_at}
use Rattle.plain.specs.Shown.{fail_word}
use Rattle.plain.proofs.string.PlainString.fail_word.Goals as goal

pub loop-j-init : goal.loop-j-init
unfolding fail_word pack
loop-j-init c = search rules

pub loop-j-preserved : goal.loop-j-preserved
unfolding fail_word
loop-j-preserved c =
    let at = c.loop-j in
    let a = c.args in
    let x = jet_at a.self.jets at.j in
    rw add-one
    (c.with_bit-w.ensures
    ∙ pack-next at.j at.w (λ j. mapped_jet (jet_at a.self.jets j) && (jet_at a.self.jets j).standing.fail) _
    (omega arith) at.invariant (ap (λ (b : Bool). b && x.standing.fail) c.is_mapped.ensures))
