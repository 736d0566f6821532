-- One cycle of a string on packed words: the rules of Jets for 32 jets at once, jet j being bit j. That each bit is what Jets says is
-- proved (proofs/). Masks are one string's, manifold 0 first; `m` is the number of manifolds. Assumes nothing.
use Rattle.std.specs.Prelude.{ℕ, zero, suc, ◌+◌, ◌*◌, Bool, true, false, cond, List, replicate, bit_and, bit_or, slice_index, slice_set}
use Rattle.bits.specs.Bit.{bit, without, meets, pack}
use Rattle.cycle.specs.Size.{jet_count, manifold_count, all_open}
use Rattle.cycle.specs.Leak.{leaks}
use Rattle.cycle.specs.Map.{mapped}
use Rattle.cycle.specs.declared.string.Standing.{Standing}
use Rattle.cycle.specs.declared.slots.OffSlots.{OffSlots}
use Rattle.cycle.specs.declared.slots.OnSlots.{OnSlots}
use Rattle.cycle.specs.declared.slots.Overrides.{Overrides}
use Rattle.cycle.specs.declared.string.StringState.{StringState}
use Rattle.cycle.specs.declared.string.AtManifold.{AtManifold}
use Rattle.cycle.specs.declared.values.Sample.{Sample}
use Rattle.cycle.specs.declared.values.Temperatures.{Temperatures}
use Rattle.cycle.specs.declared.values.Requests.{Requests}

-- the state with one group written anew
abbrev pub with_standing : Standing → StringState → StringState
with_standing x s = record { standing = x; good = s.good; off = s.off; on = s.on; over = s.over; close = s.close; lost = s.lost }

abbrev pub with_good : Standing → StringState → StringState
with_good x s = record { standing = s.standing; good = x; off = s.off; on = s.on; over = s.over; close = s.close; lost = s.lost }

abbrev pub with_off : OffSlots ℕ → StringState → StringState
with_off x s = record { standing = s.standing; good = s.good; off = x; on = s.on; over = s.over; close = s.close; lost = s.lost }

abbrev pub with_on : OnSlots ℕ → StringState → StringState
with_on x s = record { standing = s.standing; good = s.good; off = s.off; on = x; over = s.over; close = s.close; lost = s.lost }

abbrev pub with_over : Overrides ℕ → StringState → StringState
with_over x s = record { standing = s.standing; good = s.good; off = s.off; on = s.on; over = x; close = s.close; lost = s.lost }

abbrev pub with_close : ℕ → StringState → StringState
with_close x s = record { standing = s.standing; good = s.good; off = s.off; on = s.on; over = s.over; close = x; lost = s.lost }

abbrev pub with_lost : Bool → StringState → StringState
with_lost x s = record { standing = s.standing; good = s.good; off = s.off; on = s.on; over = s.over; close = s.close; lost = x }

abbrev pub with_fail : ℕ → StringState → StringState
with_fail x s = with_standing (record { fail = x; valves = s.standing.valves; saved = s.standing.saved }) s

abbrev pub no_off : OffSlots ℕ
no_off = record { newest = 0; older = 0; oldest = 0 }

abbrev pub no_on : OnSlots ℕ
no_on = record { newest = 0; older = 0; recheck = 0 }

-- Fresh
abbrev pub fresh_standing : Standing
fresh_standing = record { fail = 0; valves = all_open; saved = replicate manifold_count 0 }

abbrev pub fresh : StringState
fresh = record {
  standing = fresh_standing;
  good = fresh_standing;
  off = no_off;
  on = no_on;
  over = record { inhibit = 0; reenable = 0 };
  close = 0;
  lost = false;
}

-- 1. Path
unfoldable pub path_lost : StringState → StringState
path_lost s = with_lost true s

unfoldable pub recovered : StringState → StringState
recovered s = cond s.lost (with_lost false (with_on no_on (with_off no_off (with_standing s.good s)))) s

-- 2. Gap
abbrev pub off_cleared : Bool → StringState → StringState
off_cleared gap s = cond gap (with_off no_off s) s

abbrev pub on_cleared : Bool → StringState → StringState
on_cleared missed s = cond missed (with_on no_on s) s

unfoldable pub gapped : Bool → Bool → StringState → StringState
gapped gap missed s = on_cleared missed (off_cleared gap s)

-- 3. Off failure
abbrev pub off_shifted : ℕ → ℕ → OffSlots ℕ → OffSlots ℕ
off_shifted commanded pressure x = record { newest = without commanded pressure; older = x.newest; oldest = x.older }

abbrev pub off_fails : OffSlots ℕ → StringState → ℕ
off_fails x s = without (bit_or s.standing.fail (bit_and (bit_and x.newest x.older) x.oldest)) s.over.reenable

unfoldable pub off_failure : ℕ → ℕ → StringState → StringState
off_failure commanded pressure s =
    let x = off_shifted commanded pressure s.off in
    with_off x (with_fail (off_fails x s) s)

-- 4. one manifold with the jets of `mask`: its valve remembered open or not, open now or not
unfoldable pub manifold : ℕ → Bool → Bool → AtManifold → AtManifold
manifold mask true true a = a
manifold mask true false a =
    record { fail = bit_or a.fail mask; reenable = without a.reenable mask; saved = without mask a.fail }
manifold mask false true a = record { fail = without a.fail a.saved; reenable = a.reenable; saved = a.saved }
manifold mask false false a = a

-- 4. the words that the manifolds change, on the way through them
pub record Passed : Type 0 where
  pub fail : ℕ
  pub reenable : ℕ
  pub saved : List ℕ

-- manifold i is handled and its saved set stored back
abbrev pub handled : ℕ → AtManifold → Passed → Passed
handled i a p = record { fail = a.fail; reenable = a.reenable; saved = slice_set p.saved i a.saved }

abbrev pub at_manifold : ℕ → Passed → AtManifold
at_manifold i p = record { fail = p.fail; reenable = p.reenable; saved = slice_index p.saved i }

-- the lowest m manifolds, lowest first
unfoldable pub passed : ℕ → List ℕ → ℕ → ℕ → Passed → Passed
passed zero masks was now p = p
passed (suc i) masks was now p =
    let q = passed i masks was now p in
    handled i (manifold (slice_index masks i) (bit i was) (bit i now) (at_manifold i q)) q

-- 4. then all inhibited jets are failed and V is remembered
abbrev pub remembered : ℕ → Passed → StringState → StringState
remembered now p s =
    with_over (record { inhibit = s.over.inhibit; reenable = p.reenable })
    (with_standing (record { fail = bit_or p.fail s.over.inhibit; valves = now; saved = p.saved }) s)

unfoldable pub manifolds : ℕ → List ℕ → ℕ → StringState → StringState
manifolds m masks now s =
    remembered now
    (passed m masks s.standing.valves now
    (record { fail = s.standing.fail; reenable = s.over.reenable; saved = s.standing.saved }))
    s

-- 5. the jets on those of the lowest m manifolds remembered as closed: 02, order 8, "ignores a re-enable for a jet" on these
unfoldable pub behind_closed : ℕ → List ℕ → ℕ → ℕ
behind_closed zero masks valves = 0
behind_closed (suc i) masks valves = bit_or (behind_closed i masks valves) (cond (bit i valves) 0 (slice_index masks i))

-- 5. Requests, those that are heeded: where a jet is named both ways, which no taken record does, the inhibit decides; the close bits of
-- `drop` go
abbrev pub overridden : ℕ → ℕ → Overrides ℕ → Overrides ℕ
overridden inhibit reenable x = record
    { inhibit = bit_or (without x.inhibit reenable) inhibit; reenable = without (bit_or x.reenable reenable) inhibit }

unfoldable pub requested : ℕ → ℕ → ℕ → StringState → StringState
requested inhibit reenable drop s =
    with_close (without s.close drop)
    (with_over (overridden inhibit reenable s.over) (with_fail (bit_or (without s.standing.fail reenable) inhibit) s))

-- 6. the jets that leak, of a string's words: jet by jet, fuel word then oxidizer word
abbrev pub jet_leaks : List ℕ → ℕ → Bool
jet_leaks t j = leaks (slice_index t (2 * j)) (slice_index t (2 * j + 1))

unfoldable pub leak_word : Temperatures → ℕ
leak_word t = pack jet_count (jet_leaks t.words)

-- 6. the bad jets, of mapped ones alone
unfoldable pub bad_jets : ℕ → ℕ → ℕ → ℕ → ℕ
bad_jets jets commanded driver leaking = without (bit_and jets (bit_or driver leaking)) commanded

-- 6. a manifold gets its close bit if some jet of its mask is in the recheck word and bad again, not re-enabled
abbrev pub asks_close : ℕ → ℕ → ℕ → Bool
asks_close mask recheck again = meets (bit_and mask recheck) again

unfoldable pub close_bits : ℕ → List ℕ → ℕ → ℕ → ℕ
close_bits m masks recheck again = pack m (λ i. asks_close (slice_index masks i) recheck again)

-- 6. Recheck: a close bit stays until it is dropped
unfoldable pub rechecked : ℕ → List ℕ → ℕ → StringState → StringState
rechecked m masks bad s = with_close (bit_or s.close (close_bits m masks s.on.recheck (without bad s.over.reenable))) s

-- 7. On failure
abbrev pub on_shifted : ℕ → StringState → OnSlots ℕ
on_shifted bad s = record { newest = bad; older = s.on.newest; recheck = without (bit_and bad s.on.newest) s.over.reenable }

unfoldable pub on_failure : ℕ → StringState → StringState
on_failure bad s =
    let x = on_shifted bad s in
    with_on x (with_fail (bit_or s.standing.fail x.recheck) s)

-- 8. the good copy is taken
unfoldable pub kept : StringState → StringState
kept s = with_good s.standing s

-- steps 1 to 4, the path bit being clear; commands of unmapped jets are ignored
unfoldable pub minor_steps : ℕ → List ℕ → Sample → Bool → Bool → StringState → StringState
minor_steps m masks x gap missed s =
    manifolds m masks x.valves (off_failure (bit_and (mapped m masks) x.commanded) x.pressure (gapped gap missed (recovered s)))

-- step 5; requests of unmapped jets are ignored, and re-enables behind closed valves
abbrev pub after_requests : ℕ → List ℕ → Requests → StringState → StringState
after_requests m masks q s =
    requested (bit_and (mapped m masks) q.inhibit)
    (without (bit_and (mapped m masks) q.reenable) (behind_closed m masks s.standing.valves)) q.drop s

-- step 6; badness of unmapped jets is ignored
abbrev pub bad_of : ℕ → List ℕ → Sample → ℕ → ℕ
bad_of m masks x leaking = bad_jets (mapped m masks) x.commanded x.driver leaking

-- steps 5 to 8, the path bit being clear
unfoldable pub major_steps : ℕ → List ℕ → Sample → ℕ → Requests → StringState → StringState
major_steps m masks x leaking q s =
    let bad = bad_of m masks x leaking in
    kept (on_failure bad (rechecked m masks bad (after_requests m masks q s)))

-- steps 1 to 4 of any taken record
unfoldable pub minor_cycle : ℕ → List ℕ → Bool → Sample → Bool → Bool → StringState → StringState
minor_cycle m masks path x gap missed s = cond path (path_lost s) (minor_steps m masks x gap missed s)

-- steps 5 to 8 of a taken major one
unfoldable pub major_cycle : ℕ → List ℕ → Bool → Sample → Temperatures → Requests → StringState → StringState
major_cycle m masks path x t q s = cond path s (major_steps m masks x (leak_word t) q s)
