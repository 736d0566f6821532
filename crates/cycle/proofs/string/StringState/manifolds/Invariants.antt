-- `cycle::string::StringState::manifolds` meets its contract. Assumes nothing.
use Rattle.std.proofs.Common.{◌≡◌, ℕ, List}
use Rattle.cycle.specs.Words.{Passed, passed}
use Rattle.cycle.proofs.string.StringState.manifolds.Given as goal

-- the loop's locals as the definition groups them
abbrev pub passed_at : List ℕ → ℕ → ℕ → Passed
passed_at saved fail reenable = record { fail = fail; reenable = reenable; saved = saved }

abbrev pub invariant-loop-i : goal.invariant-loop-i
invariant-loop-i l =
    passed_at l.saved l.fail l.reenable ≡ passed l.i l.masks.words l.was l.valves (passed_at l.initial.saved l.initial.fail l.initial.reenable)
