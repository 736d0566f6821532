-- `feed::calm::minor_marked` meets its contract: two bytes are a number, the low one first. Assumes nothing.
use Rattle.std.proofs.Common.{◌≡◌, ℕ, ◌+◌, ◌*◌, ◌/◌, ◌%◌, ◌&&◌, eqb, ◌∙◌, ap₂, arith, eq-eqb, eqb-true}
use Rattle.bits.proofs.Yes.{and_left, and_right, and_both, same-yes}
use Rattle.feed.specs.Size.{mark_byte, minor_mark}
use Rattle.feed.proofs.calm.minor_marked.Goals as goal

marks : (w : ℕ) → eqb w (minor_mark * 256 + mark_byte) ≡ (eqb (w % 256) mark_byte && eqb (w / 256) minor_mark)
marks w =
    same-yes _ _
    (λ e.
    let z = eqb-true w _ e in
    and_both _ _ (eq-eqb (w % 256) mark_byte (omega arith)) (eq-eqb (w / 256) minor_mark (omega arith)))
    (λ e.
    let low = eqb-true (w % 256) mark_byte (and_left _ _ e) in
    let high = eqb-true (w / 256) minor_mark (and_right (eqb (w % 256) mark_byte) _ e) in
    eq-eqb w _ (omega arith))

pub returns : goal.returns
returns c =
    let w = c.low_two_at.ensures in
    marks c.low_two_at.result ∙ ap₂ (λ (a b : ℕ). eqb a mark_byte && eqb b minor_mark) w.0 w.1
