-- `plain::hall::Plain::shown` meets its contract. Assumes nothing.
use borrow.Author.Rules.{rules}
use mathlib.Core.Path.{ap}
use mathlib.Core.List.{List}
use Rattle.cycle.specs.Size.{string_count, jet_count, manifold_count}
use Rattle.feed.specs.declared.report.StringShown.{StringShown}
use Rattle.feed.proofs.Records.Tables.{table-mapped}
use Rattle.plain.specs.Said.{past_string}
use Rattle.plain.specs.Shown.{fail_word, close_word, shown_of}
use Rattle.plain.proofs.hall.Plain.shown.Goals as goal

pub returns : goal.returns
unfolding shown_of
returns c =
    let p = c.args.self in
    ap (λ (x : List StringShown). record { n = p.n; strings = x; banks = p.banks })
    (table-mapped _ (λ x. record { fail = fail_word jet_count x.jets; close = close_word manifold_count x.close })
    (λ x y q r k. search rules) _ p.strings c.map-strings.result string_count past_string c.map-strings.ensures.items)
