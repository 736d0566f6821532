-- One string of the plain engine: the rules of one jet (cycle's Jets), for each of its jets. Assumes nothing.
use Rattle.std.specs.Prelude.{Bool, false, not, cond, ◌&&◌, ◌||◌, List, ℕ, eqb, get_or}
use Rattle.bits.specs.Bit.{any}
use Rattle.cycle.specs.Size.{jet_count, manifold_count}
use Rattle.cycle.specs.Each.{each}
use Rattle.cycle.specs.Jets as jets
use Rattle.cycle.specs.declared.number.Next.{Next}
use Rattle.plain.specs.Jet.{by, state_of, place_of, past_jet, record_of, minor_rules, mapped_jet, if_mapped}
use Rattle.plain.specs.Said.{nothing_said}
use Rattle.plain.specs.declared.jet.Jet.{Jet}
use Rattle.plain.specs.declared.said.JetSaid.{JetSaid}
use Rattle.plain.specs.declared.said.StringSaid.{StringSaid}
use Rattle.plain.specs.declared.string.PlainString.{PlainString}

-- jet j, and what is said of it
abbrev pub jet_at : List Jet → ℕ → Jet
jet_at l j = get_or l j past_jet

abbrev pub said_at : StringSaid → ℕ → JetSaid
said_at said j = get_or said.jets j nothing_said

-- is manifold i's close bit to be dropped
abbrev pub drop_at : StringSaid → ℕ → Bool
drop_at said i = get_or said.drops i false

-- is jet j bad by what is said of it: that depends neither on the cycle number nor on the path nor on a drop
abbrev pub bad_at : StringSaid → ℕ → Bool
bad_at said j = jets.is_bad (record_of 0 false false (said_at said j))

-- the lowest n jets by a rule that knows the jet's number
unfoldable pub each_of : ℕ → (ℕ → Jet → Jet) → List Jet → List Jet
each_of n rule l = each n rule past_jet l

abbrev pub each_jet : (ℕ → Jet → Jet) → PlainString → PlainString
each_jet rule s = record { jets = each_of jet_count rule s.jets; close = s.close }

-- 1. the path bit is set
abbrev pub lost_rule : ℕ → Jet → Jet
lost_rule j x = by jets.path_lost x

abbrev pub path_lost : PlainString → PlainString
path_lost s = each_jet lost_rule s

-- 1 to 4, the path bit being clear
abbrev pub minor_rule : StringSaid → Bool → Bool → ℕ → Jet → Jet
minor_rule said gap missed j x = by (minor_rules gap missed (said_at said j)) x

abbrev pub minor_steps : StringSaid → Bool → Bool → PlainString → PlainString
minor_steps said gap missed s = each_jet (minor_rule said gap missed) s

-- 5. Requests that name jets
abbrev pub request_rule : StringSaid → ℕ → Jet → Jet
request_rule said j x = by (jets.requested (said_at said j).inhibit (said_at said j).reenable) x

abbrev pub requested : StringSaid → PlainString → PlainString
requested said s = each_jet (request_rule said) s

-- 5. 02, order 6: "bit i asks to drop manifold i's close bit"; the lowest n manifolds
unfoldable pub close_left : ℕ → StringSaid → List Bool → List Bool
close_left n said close = each n (λ i b. b && not (drop_at said i)) false close

abbrev pub dropped : StringSaid → PlainString → PlainString
dropped said s = record { jets = s.jets; close = close_left manifold_count said s.close }

-- 6. does one of the lowest n jets, of those on manifold i, ask for its close bit
unfoldable pub some_asks : ℕ → StringSaid → List Jet → ℕ → Bool
some_asks n said l i = any n (λ j. eqb (place_of (jet_at l j).place) i && jets.asks (bad_at said j) (state_of (jet_at l j)))

-- the lowest n manifolds get their close bits, which stay until they are dropped
unfoldable pub closes : ℕ → StringSaid → List Jet → List Bool → List Bool
closes n said l close = each n (λ i b. b || some_asks jet_count said l i) false close

abbrev pub rechecked : StringSaid → PlainString → PlainString
rechecked said s = record { jets = s.jets; close = closes manifold_count said s.jets s.close }

-- 7. On failure
abbrev pub fail_rule : StringSaid → ℕ → Jet → Jet
fail_rule said j x = by (jets.on_failure (bad_at said j)) x

abbrev pub on_failure : StringSaid → PlainString → PlainString
on_failure said s = each_jet (fail_rule said) s

-- 8. "The good copy is taken"
abbrev pub kept_rule : ℕ → Jet → Jet
kept_rule j x = by jets.kept x

abbrev pub kept : PlainString → PlainString
kept s = each_jet kept_rule s

-- "In a major cycle also": 5 to 8
abbrev pub major_steps : StringSaid → PlainString → PlainString
major_steps said s = kept (on_failure said (rechecked said (dropped said (requested said s))))

-- the steps of a taken record, for every jet, mapped or not
abbrev pub steps : StringSaid → Next → Bool → PlainString → PlainString
steps said next major s =
    let after = minor_steps said next.gap next.missed s in
    cond said.path (path_lost s) (cond major (major_steps said after) after)

-- and jets in no mask as they were
abbrev pub keep_rule : PlainString → ℕ → Jet → Jet
keep_rule before j x = if_mapped (jet_at before.jets j) x

abbrev pub only_mapped : PlainString → PlainString → PlainString
only_mapped before s = each_jet (keep_rule before) s

unfoldable pub cycle : StringSaid → Next → Bool → PlainString → PlainString
cycle said next major s = only_mapped s (steps said next major s)

-- 02, order 4: is one of the lowest n jets "named both ways"; "only mapped jets counted"
unfoldable pub string_both_ways : ℕ → StringSaid → List Jet → Bool
string_both_ways n said l = any n (λ j. mapped_jet (jet_at l j) && (said_at said j).inhibit && (said_at said j).reenable)
