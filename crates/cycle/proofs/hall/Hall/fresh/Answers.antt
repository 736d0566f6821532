-- `cycle::hall::Hall::fresh` meets its contract. Assumes nothing.
use Rattle.std.proofs.Common.{replicate, ap₂}
use Rattle.cycle.specs.Size.{string_count, module_count}
use Rattle.cycle.specs.Hall.{fresh_hall}
use Rattle.cycle.proofs.hall.Hall.fresh.Goals as goal

pub returns : goal.returns
unfolding fresh_hall
returns c =
    let m = c.args.masks in
    ap₂ (λ s b. record { n = 0; masks = m; strings = replicate string_count s; banks = replicate module_count b })
    c.fresh.ensures c.unknown.ensures
