-- `feed::report::put_differences` meets its contract. Assumes nothing.
use Rattle.std.proofs.Common.{ℕ, ◌+◌, ◌*◌, List, ◌++◌, take, drop, ap, ◌∙◌, rules}
use Rattle.cycle.specs.Size.{module_count}
use Rattle.feed.specs.Size.{differences_from, quantity_length}
use Rattle.feed.proofs.Reports.ReportWritten.{words-mapped}
use Rattle.feed.proofs.report.put_differences.Goals as goal

pub returns : goal.returns
returns c =
    let out = c.args.out.now in
    c.put_words.ensures
    ∙ ap (λ (t : List ℕ). take differences_from out ++ (t ++ drop (differences_from + quantity_length * module_count) out))
    (words-mapped _ (λ b. b.difference) (λ x y p q k. search rules) _ c.args.banks c.map.result c.map.ensures.items)
