-- `plain::hall::Plain::fresh` meets its contract. Assumes nothing.
use Rattle.std.proofs.Common.{rules, List, replicate, ap₂}
use Rattle.cycle.specs.Size.{module_count}
use Rattle.cycle.specs.Map.{masks_of}
use Rattle.cycle.specs.declared.banks.Bank.{Bank}
use Rattle.plain.specs.Map.{fresh_string}
use Rattle.plain.specs.Hall.{fresh_plain}
use Rattle.plain.specs.declared.string.PlainString.{PlainString}
use Rattle.feed.proofs.Records.Tables.{table-made}
use Rattle.plain.proofs.hall.Plain.fresh.Goals as goal

pub returns : goal.returns
unfolding fresh_plain
returns c =
    ap₂ (λ (l : List PlainString) (b : Bank). record { n = 0; strings = l; banks = replicate module_count b })
    (table-made _ (λ s. fresh_string (masks_of c.args.masks s)) _ (λ s y f k. search rules) _ _ c.from_fn.ensures.items)
    c.unknown.ensures
