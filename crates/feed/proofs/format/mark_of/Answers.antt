-- `feed::format::mark_of` meets its contract. Assumes nothing.
use Rattle.std.proofs.Common.{◌≡◌, arith, ne_eqb}
use Rattle.feed.specs.Size.{minor_mark, major_mark}
use Rattle.feed.specs.Format.{row_of, mark_of}
use Rattle.feed.proofs.format.mark_of.Goals as goal

pub returns-in-77 : goal.returns-in-77
unfolding mark_of row_of
returns-in-77 c = simp c.in-77.is

pub returns-in-74 : goal.returns-in-74
unfolding mark_of row_of
returns-in-74 c = simp c.in-74.is

pub returns-in_default : goal.returns-in_default
unfolding mark_of row_of
returns-in_default c =
    let a : c.args.b ≡ minor_mark → ⊥ = (λ e. omega arith) in
    let b : c.args.b ≡ major_mark → ⊥ = (λ e. omega arith) in
    simp (ne_eqb _ _ a, ne_eqb _ _ b)
