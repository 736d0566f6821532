-- `feed::values::minor_of` meets its contract. Assumes nothing.
use Rattle.std.proofs.Common.{get_or, ap₂}
use Rattle.feed.specs.Size.{path_at}
use Rattle.feed.specs.Values.{minor_of}
use Rattle.feed.proofs.values.minor_of.Goals as goal

pub returns : goal.returns
unfolding minor_of
returns c =
    let l = c.args.s.now in
    ap₂ (λ w s. record { wire = w; path = get_or l path_at 0; samples = s }) c.two_at.ensures
    c.samples_of.ensures
