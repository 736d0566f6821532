-- `feed::step::leak_among` meets its contract: the lowest jet that is left is visited and cleared, until none is left. Assumes nothing.
use Rattle.std.proofs.Common.{◌≡◌, ℕ, ◌+◌, ◌-◌, ◌%◌, ◌<◌, ◌∙◌, ⊎_elim, lt_trans, eq-zero-or-pos, arith, rules}
use lib.Bits.{bit_and, and_le_r}
use Rattle.feed.proofs.Records.ColdWords.{least_warm, walk_begins, walk_turn, walk_ends}
use Rattle.feed.proofs.step.leak_among.Goals as goal

some : {rest : ℕ} → (rest ≡ 0 → ⊥) → 0 < rest
some {rest} f = ⊎_elim (λ z. absurd (f z)) (λ p. p) (eq-zero-or-pos rest)

less : (rest : ℕ) → (rest ≡ 0 → ⊥) → bit_and rest (rest - 1) < rest
less rest f = omega (arith, some f, and_le_r rest (rest - 1))

pub loop-rest-init : goal.loop-rest-init
loop-rest-init c = let a = c.args in (search rules, walk_begins a.s.now a.i a.jets)

pub loop-rest-smaller : goal.loop-rest-smaller
loop-rest-smaller c = less c.loop-rest.rest c.loop-rest-test.true

pub loop-rest-preserved : goal.loop-rest-preserved
loop-rest-preserved c =
    let l = c.loop-rest in
    let a = c.args in
    let w = c.pair_at-w in
    let d : ℕ = (w.result + (4294967296 - least_warm)) % 4294967296 in
    let f = c.loop-rest-test.true in
    let h = l.invariant.0 in (
      lt_trans (less l.rest f) h,
      walk_turn a.s.now a.i a.jets l.below_zero l.small l.rest w.result d (some f) h w.ensures.result_value.1
          (omega arith) (omega arith) (w.ensures.result_value.0, w.ensures.result_value_2) l.invariant.1,
    )

pub returns : goal.returns
returns c =
    let a = c.args in
    let l = c.loop-rest in
    c.meets.ensures ∙ walk_ends a.s.now a.i a.jets l.below_zero l.small c.loop-rest-test.false l.invariant.1

pub overflow_sub-rest : goal.overflow_sub-rest
overflow_sub-rest c = some c.loop-rest-test.true
