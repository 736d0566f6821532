-- The lists of calls of the instance give back what is stated, from fresh. Assumes nothing.
use mathlib.Core.Path.{◌≡◌, ap, ◌∙◌}
use mathlib.Core.List.{List, [], ◌∷◌}
use Rattle.cycle.specs.Hall.{fresh_hall}
use Rattle.feed.specs.Call.{holding, call, Result}
use Rattle.feed.specs.Calls.{monitor_after, result_of}
use Rattle.feed.specs.declared.call.Monitor.{Monitor}
use Rattle.promises.specs.NightRecords.{night_map}
use Rattle.promises.specs.InstanceCalls.{room, handing, Exchanged, made_of, Given, hall_at25, hall_at50, hall_at75}
use Rattle.promises.specs.InstanceCalls.{up_to25, up_to50, feed_calls, longer_calls}
use Rattle.promises.proofs.InstanceReads.{records-whole, parts-wait, reads_nothing, reads-25, reads-later, reads_first, reads-rest}
use Rattle.promises.proofs.InstanceSteps.{steps_of, night-starts}
use Rattle.promises.proofs.InstanceCalls.{idle, settling}

-- the monitor that the calls are said to leave
abbrev pub left_by : List Exchanged → Monitor
left_by [] = holding (fresh_hall night_map) []
left_by (x ∷ xs) = x.result.outcome.monitor

-- each call gives back what is stated, on the monitor that the one before it is said to leave
abbrev Computed : List Exchanged → Type 0
Computed [] = Unit {0}
Computed (x ∷ xs) = (call (left_by xs) x.piece room ≡ x.result) × Computed xs

abbrev pub FromFresh : List Exchanged → Type 0
FromFresh xs = Given xs × (monitor_after night_map (made_of xs) ≡ left_by xs)

from-fresh : (xs : List Exchanged) → Computed xs → FromFresh xs
unfolding monitor_after
from-fresh [] c = (tt, night-starts)
from-fresh (x ∷ xs) c =
    let before = from-fresh xs c.1 in
    let now : result_of night_map (handing x.piece) (made_of xs) ≡ x.result =
    ap (λ (m : Monitor). call m x.piece room) before.1 ∙ c.0 in
    ((now, before.0), ap (λ (r : Result). r.outcome.monitor) now)

-- ---- the calls

pub to25-given : FromFresh up_to25
to25-given = from-fresh up_to25 (
  idle hall_at25 reads_nothing.0 parts-wait.0,
  (settling reads-25.0 records-whole.0 steps_of.0, tt),
)

pub to50-given : FromFresh up_to50
to50-given = from-fresh up_to50 (
  idle hall_at50 reads_nothing.0 parts-wait.0,
  (
    settling reads-later.0 records-whole.1 steps_of.1,
    (settling reads-25.1 records-whole.0 steps_of.0, tt),
  ),
)

pub feed-given : FromFresh feed_calls
feed-given = from-fresh feed_calls (
  idle hall_at75 reads_nothing.0 parts-wait.0,
  (
    settling reads-later.2 records-whole.2 steps_of.2,
    (
      settling reads-rest.0 records-whole.1 steps_of.1,
      (
        idle hall_at25 reads_nothing.1 parts-wait.1,
        (
          idle hall_at25 reads_first.0 parts-wait.1,
          (settling reads-25.2 records-whole.0 steps_of.0, tt),
        ),
      ),
    ),
  ),
)

pub longer-given : FromFresh longer_calls
longer-given = from-fresh longer_calls (
  idle hall_at75 reads_nothing.0 parts-wait.0,
  (
    settling reads-later.2 records-whole.2 steps_of.2,
    (
      settling reads-rest.2 records-whole.3 steps_of.4,
      (
        idle hall_at50 reads_first.2 parts-wait.3,
        (
          settling reads-later.1 records-whole.1 steps_of.1,
          (
            settling reads-rest.1 records-whole.0 steps_of.3,
            (
              idle hall_at25 reads_first.1 parts-wait.2,
              (settling reads-25.3 records-whole.0 steps_of.0, tt),
            ),
          ),
        ),
      ),
    ),
  ),
)
