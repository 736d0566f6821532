-- `feed::report::put_lesser` meets its contract. Assumes nothing.
use Rattle.std.proofs.Common.{ℕ, ◌+◌, ◌*◌, List, ◌++◌, take, drop, ap, ◌∙◌, rules}
use Rattle.cycle.specs.Size.{module_count}
use Rattle.feed.specs.Size.{lesser_from, quantity_length}
use Rattle.feed.proofs.Reports.ReportWritten.{words-mapped}
use Rattle.feed.proofs.report.put_lesser.Goals as goal

pub returns : goal.returns
returns c =
    let out = c.args.out.now in
    c.put_words.ensures
    ∙ ap (λ (t : List ℕ). take lesser_from out ++ (t ++ drop (lesser_from + quantity_length * module_count) out))
    (words-mapped _ (λ b. b.lesser) (λ x y p q k. search rules) _ c.args.banks c.map.result c.map.ensures.items)
