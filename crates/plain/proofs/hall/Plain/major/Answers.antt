-- `plain::hall::Plain::major` meets its contract. Assumes nothing.
use mathlib.Core.Path.{ap, ap₂, ◌∙◌}
use mathlib.Core.Bool.{true}
use mathlib.Core.List.{List}
use Rattle.cycle.specs.Size.{string_count, module_count}
use Rattle.cycle.specs.Banks.{weighed_all}
use Rattle.cycle.specs.Records.{major}
use Rattle.cycle.specs.declared.banks.Bank.{Bank}
use Rattle.plain.specs.Hall.{both_ways, cycled, taken}
use Rattle.plain.specs.declared.hall.Plain.{Plain}
use Rattle.plain.specs.declared.said.StringSaid.{StringSaid}
use Rattle.plain.proofs.Halls.{step-refuses, step-named, step-takes}
use Rattle.plain.proofs.hall.Plain.major.Goals as goal

pub returns-then-both_ways : goal.returns-then-both_ways
returns-then-both_ways c =
    let a = c.args in
    step-named (major a.r) a.self _ c.in-Ok.ensures
    (c.both_ways.ensures
    ∙ ap (λ (l : List StringSaid). both_ways string_count l a.self.strings) c.opened-said.ensures) c.if-both_ways.true

pub returns-else-both_ways : goal.returns-else-both_ways
unfolding taken
returns-else-both_ways c =
    let a = c.args in
    let taken-to = c.in-Ok.next in
    let said = c.opened-said.ensures in
    let after = c.cycled.ensures ∙ ap (λ (l : List StringSaid). cycled l taken-to true a.self) said in
    step-takes (major a.r) a.self _ c.in-Ok.ensures
    (c.both_ways.ensures ∙ ap (λ (l : List StringSaid). both_ways string_count l a.self.strings) said)
    c.if-both_ways.false
    (ap₂ (λ (p : Plain) (b : List Bank). record { n = p.n; strings = p.strings; banks = b }) after
    (c.weighed_all-self.ensures ∙ ap (λ (p : Plain). weighed_all module_count a.r.quantities p.banks) after))

pub returns-in-Err : goal.returns-in-Err
returns-in-Err c =
    let a = c.args in
    step-refuses (major a.r) a.self _ c.in-Err.ensures
