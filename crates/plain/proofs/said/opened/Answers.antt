-- `plain::said::opened` meets its contract. Assumes nothing.
use Rattle.std.proofs.Common.{rules, get_or}
use Rattle.bits.specs.Bit.{bit}
use Rattle.cycle.specs.Hall.{sample_of, no_temperatures, no_requests}
use Rattle.plain.specs.Said.{past_string, string_said, opened}
use Rattle.feed.proofs.Records.Tables.{table-made}
use Rattle.plain.proofs.said.opened.Goals as goal

pub returns : goal.returns
unfolding opened
returns c =
    let a = c.args in
    table-made _
    (λ s.
    string_said (bit s a.r.path) (sample_of a.r s) (get_or a.q s no_requests) (get_or a.t s no_temperatures) (get_or a.strings s past_string).jets)
    _ (λ s y f k. search rules) _ _ c.from_fn.ensures.items
