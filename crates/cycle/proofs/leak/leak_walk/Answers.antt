-- `cycle::leak::leak_walk` meets its contract: the lowest jet that is left is visited and flipped, until none is left. Assumes nothing.
use Rattle.std.proofs.Common.{◌≡◌, ℕ, ◌+◌, ◌*◌, ◌%◌, ◌^◌, ◌<◌, Bool, true, false, get_or, sym, ap, ◌∙◌, ⊎_elim, lt_trans, eq-zero-or-pos, one-mul, arith, lit<, shl_exact}
use lib.Bits.{bit_and, bit_or, bit_xor}
use lib.Count.{count_trailing_zeros}
use Rattle.bits.specs.Bit.{word_bits, bit, plus_bit}
use Rattle.bits.proofs.Yes.{or_left, or_right, or-neither}
use Rattle.bits.proofs.Lowest.{lowest_set, flipped-less}
use Rattle.cycle.specs.Leak.{cold}
use Rattle.cycle.specs.Words.{jet_leaks, leak_word}
use Rattle.cycle.proofs.MappedLeaks.{walk_turn, walk_ends}
use Rattle.cycle.proofs.leak.leak_walk.Goals as goal
use Rattle.cycle.proofs.leak.leak_walk.Goals.{then-cold, else-cold+else-cold-2, then-cold-via-then-cold, then-cold-via-else-cold+then-cold-2}

-- ---- the jet visited is one that is left

lowest : {rest : ℕ} → (rest ≡ 0 → ⊥) → rest < 2 ^ word_bits
    → (count_trailing_zeros 32 rest < 32) × (bit (count_trailing_zeros 32 rest) rest ≡ true)
lowest {rest} some h = lowest_set 32 rest (⊎_elim (λ z. absurd (some z)) (λ p. p) (eq-zero-or-pos rest)) h

within : {rest : ℕ} → (rest ≡ 0 → ⊥) → rest < 2 ^ word_bits → count_trailing_zeros 32 rest < 32
within some h = (lowest some h).0

shifted : (j : ℕ) → j < 32 → 1 * 2 ^ j % 2 ^ 32 ≡ 2 ^ j
shifted j l = shl_exact 1 j 32 (lit< tt) (omega arith) ∙ one-mul (2 ^ j)

flips : (rest : ℕ) → (rest ≡ 0 → ⊥) → rest < 2 ^ word_bits
    → bit_xor rest (1 * 2 ^ count_trailing_zeros 32 rest % 2 ^ 32) ≡ bit_xor rest (2 ^ count_trailing_zeros 32 rest)
flips rest some h = ap (bit_xor rest) (shifted (count_trailing_zeros 32 rest) (within some h))

less : (rest : ℕ) → (rest ≡ 0 → ⊥) → rest < 2 ^ word_bits → bit_xor rest (1 * 2 ^ count_trailing_zeros 32 rest % 2 ^ 32) < rest
less rest some h = rw (flips rest some h) (flipped-less (count_trailing_zeros 32 rest) rest (lowest some h).1)

pub loop-rest-smaller : goal.loop-rest-smaller
loop-rest-smaller c =
    less c.loop-rest.rest c.loop-rest-test.true c.loop-rest.invariant.0

-- it leaks by its fuel word, by its oxidizer word, or by neither
pub loop-rest-preserved : goal.loop-rest-preserved
loop-rest-preserved c =
    let jets = c.args.jets in
    let t = c.args.t in
    let w = c.loop-rest.w in
    let rest = c.loop-rest.rest in
    let some = c.loop-rest-test.true in
    let h = c.loop-rest.invariant.0 in
    let j = count_trailing_zeros 32 rest in
    let found = lowest some h in
    let fuel : Bool = cold (get_or t.words (2 * j) 0) in
    let oxidizer : Bool = cold (get_or t.words (2 * j + 1) 0) in
    let fuel-is = c.cold.ensures in
    let turned : (leaking : Bool) → leaking ≡ jet_leaks t.words j → c.if-cold.w ≡ plus_bit w j leaking
    → bit_or c.if-cold.w (bit_and (bit_xor rest (1 * 2 ^ j % 2 ^ 32)) (leak_word t)) ≡ bit_and jets (leak_word t) =
    λ leaking q f. walk_turn jets w j rest t leaking found.0 found.1 q f (flips rest some h) c.loop-rest.invariant.1 in (
      lt_trans (less rest some h) h,
      elim c.if-cold.branch [
        | then-cold w' ↦
            turned true
            (elim w'.then-cold.branch as (λ _. true ≡ jet_leaks t.words j) [
              | then-cold-via-then-cold first ↦ sym (or_left fuel oxidizer (sym fuel-is ∙ first.if-cold.true))
              | then-cold-via-else-cold+then-cold-2 second ↦
                  sym (or_right fuel oxidizer (sym second.cold-else-cold.ensures ∙ second.if-cold-2.true))
            ])
            (w'.w-is ∙ ap (bit_or w) (shifted j found.0))
        | else-cold+else-cold-2 w' ↦
            turned false
            (sym (or-neither fuel oxidizer (sym fuel-is ∙ w'.if-cold.false) (sym w'.cold-else-cold.ensures ∙ w'.if-cold-2.false)))
            w'.w-is
      ],
    )

pub returns : goal.returns
returns c =
    let args = c.args in
    walk_ends args.jets c.loop-rest.w (leak_word args.t) c.loop-rest-test.false c.loop-rest.invariant.1
