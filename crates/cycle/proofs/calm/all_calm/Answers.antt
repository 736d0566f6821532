-- `cycle::calm::all_calm` meets its contract. The loop's invariant: all strings looked at so far are calm. Assumes nothing.
use Rattle.std.proofs.Common.{◌≡◌, true, false, get_or, sym, refl, ◌∙◌, add-one}
use Rattle.bits.specs.Bit.{every}
use Rattle.bits.proofs.Every.{every-at}
use Rattle.bits.proofs.Yes.{and_both, not-both, not_yes}
use Rattle.cycle.specs.Size.{string_count}
use Rattle.cycle.specs.Hall.{past_string}
use Rattle.cycle.specs.Calm.{calm, all_calm}
use Rattle.cycle.proofs.calm.all_calm.Goals as goal

pub loop-string-init : goal.loop-string-init
unfolding all_calm every
loop-string-init c = refl

-- one string is not calm, so not all are
pub returns-then-not-is_calm : goal.returns-then-not-is_calm
unfolding all_calm
returns-then-not-is_calm c =
    let strings = c.args.strings in
    let one : calm (get_or strings c.loop-string.string-index past_string) ≡ false = sym c.is_calm.ensures ∙ c.if-not-is_calm.true in
    sym (not_yes (every string_count (λ s. calm (get_or strings s past_string)))
    (λ e. not-both _ (every-at string_count _ e c.loop-string.string-index c.loop-string-test.true) one))

pub loop-string-preserved : goal.loop-string-preserved
unfolding all_calm every
loop-string-preserved c =
    let at = c.loop-string in
    let strings = c.args.strings in
    let one : calm (get_or strings at.string-index past_string) ≡ true = sym c.is_calm.ensures ∙ c.if-not-is_calm.false in
    rw add-one (and_both (all_calm at.string-index strings) _ at.invariant one)
