-- `feed::call::Monitor::start_from` meets its contract. Assumes nothing.
use Rattle.std.proofs.Common.{[], replicate, ap, ◌∙◌, eq-eqb, ne_eqb}
use Rattle.feed.specs.Call.{holding, started_over}
use Rattle.feed.specs.declared.call.Outcome.{Outcome}
use Rattle.cycle.specs.Size.{string_count}
use Rattle.cycle.specs.Hall.{fresh_hall}
use Rattle.cycle.specs.declared.answer.Answer.TheVariants.{NothingSettled}
use Rattle.cycle.specs.declared.map.Masks.{Masks}
use Rattle.cycle.specs.declared.hall.Hall.{Hall}
use Rattle.feed.specs.Masks.{started_from}
use Rattle.feed.proofs.call.Monitor.start_from.Goals as goal
use Rattle.feed.specs.declared.call.Monitor.{Monitor}

-- bytes of another number are no map
abbrev none_of : Hall → Outcome Monitor
none_of h = record { answer = NothingSettled; used = 0; monitor = holding h [] }

pub returns-then-bytes-eq-MAP : goal.returns-then-bytes-eq-MAP
unfolding started_from
returns-then-bytes-eq-MAP c = rw (eq-eqb _ _ c.if-bytes-eq-MAP.true) (c.start.ensures ∙ ap started_over c.masks_of.ensures.0)

pub returns-else-bytes-eq-MAP : goal.returns-else-bytes-eq-MAP
unfolding started_from
returns-else-bytes-eq-MAP c =
    rw (ne_eqb _ _ c.if-bytes-eq-MAP.false) (ap none_of
    (c.fresh.ensures ∙ ap (λ (x : Masks). fresh_hall (replicate string_count x)) c.none.ensures))
