-- `plain::hall::Plain::minor` meets its contract. Assumes nothing.
use Rattle.std.proofs.Common.{◌≡◌, rules, replicate}
use mathlib.Core.Path.{refl, ap, ◌∙◌}
use mathlib.Core.Bool.{false}
use mathlib.Core.List.{List}
use Rattle.cycle.specs.Records.{minor}
use Rattle.cycle.specs.Size.{string_count}
use Rattle.cycle.specs.Hall.{no_requests}
use Rattle.cycle.specs.declared.values.Requests.{Requests}
use Rattle.plain.specs.Said.{opened}
use Rattle.plain.specs.Hall.{cycled, taken}
use Rattle.plain.specs.declared.said.StringSaid.{StringSaid}
use Rattle.plain.proofs.Halls.{step-refuses, step-takes, opened-silent}
use Rattle.plain.proofs.hall.Plain.minor.Goals as goal

pub returns-in-Ok : goal.returns-in-Ok
unfolding taken
returns-in-Ok c =
    let a = c.args in
    let taken-to = c.in-Ok.next in
    let none : c.default-none.result ≡ no_requests = search rules in
    let said =
    c.opened-said.ensures
    ∙ ap (λ (q : Requests). opened a.r (replicate string_count (record { words = replicate 64 0 })) (replicate string_count q) a.self.strings) none
    ∙ opened-silent a.r 64 a.self.strings in
    step-takes (minor a.r) a.self taken-to c.in-Ok.ensures refl refl
    (c.cycled.ensures ∙ ap (λ (l : List StringSaid). cycled l taken-to false a.self) said)

pub returns-in-Err : goal.returns-in-Err
returns-in-Err c =
    let a = c.args in
    step-refuses (minor a.r) a.self _ c.in-Err.ensures
