-- `cycle::number::follows` meets its contract. Assumes nothing.
use Rattle.std.proofs.Common.{◌≡◌, ℕ, ◌+◌, ◌∙◌, ◌%◌, Bool, eqb, ap, true, false, refl, arith, le-ltb, lt-ltb, not, ◌&&◌, ◌||◌}
use Rattle.std.specs.Bool.{beq}
use Rattle.cycle.specs.Size.{last_count, wire_span}
use Rattle.cycle.specs.Numbers.{is_major, wrong_kind}
use Rattle.cycle.specs.Calm.{follows}
use Rattle.cycle.proofs.number.follows.Goals as goal

pub returns-then-n-ge-LAST_COUNT : goal.returns-then-n-ge-LAST_COUNT
unfolding follows
returns-then-n-ge-LAST_COUNT c = rw (le-ltb c.args.n last_count (omega arith))

-- the same truth is no wrong kind
same-is-right : (a b : Bool) → beq a b ≡ not ((a && not b) || (not a && b))
same-is-right true true = refl
same-is-right true false = refl
same-is-right false true = refl
same-is-right false false = refl

-- and at the next number
right_kind : (wire n : ℕ) (major : Bool) {kind : Bool} → kind ≡ is_major (n + 1)
    → (eqb wire ((n + 1) % 65536) && beq kind major) ≡ (eqb wire ((n + 1) % wire_span) && not (wrong_kind major (n + 1)))
right_kind wire n major {kind} e =
    ap (λ (b : Bool). eqb wire ((n + 1) % 65536) && b) (same-is-right kind major)
    ∙ ap (λ (k : Bool). eqb wire ((n + 1) % 65536) && not ((k && not major) || (not k && major))) e

pub returns : goal.returns
unfolding follows
returns c =
    rw (lt-ltb c.args.n last_count (omega arith))
    (right_kind c.args.wire c.args.n c.args.major c.is_major.ensures)
