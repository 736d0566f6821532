-- `cycle::string::StringState::rechecked` meets its contract. Assumes nothing.
use Rattle.std.proofs.Common.{ℕ, ap, ◌∙◌}
use lib.Bits.{bit_or}
use Rattle.cycle.specs.Size.{manifold_count}
use Rattle.cycle.specs.Words.{with_close, close_bits, rechecked}
use Rattle.cycle.proofs.string.StringState.rechecked.Goals as goal

pub returns : goal.returns
unfolding rechecked
returns c =
    let a = c.args in
    ap (λ (x : ℕ). with_close (bit_or a.self.close x) a.self)
    (c.close_bits.ensures
    ∙ ap (close_bits manifold_count a.masks.words a.self.on.recheck) c.without-again.ensures)
