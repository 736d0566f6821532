-- `cycle::number::following` meets its contract. Assumes nothing.
use Rattle.std.proofs.Common.{◌≡◌, ℕ, ◌+◌, ◌≤◌, Bool, true, false, not, refl, sym, ap, ◌∙◌, arith}
use Rattle.std.specs.Bool.{beq}
use Rattle.std.specs.Prelude.{Ok, Err}
use Rattle.bits.proofs.Yes.{not-both}
use Rattle.cycle.specs.Size.{last_count}
use Rattle.cycle.specs.Numbers.{is_major, missed_major, following, Verdict}
use Rattle.cycle.specs.declared.answer.Answer.TheVariants.{WrongKind}
use Rattle.cycle.proofs.Numbers.{follows-ended, follows-wrong, follows-right}
use Rattle.cycle.proofs.number.following.Goals as goal

pub returns-then-n-step : goal.returns-then-n-step
returns-then-n-step c = sym (follows-ended c.args.n c.args.d c.args.gap c.args.major (omega arith))

-- two truths that a test tells apart, and two that it does not
apart : (a b : Bool) → not (beq a b) ≡ true → a ≡ not b
apart true true e = not-both false e refl
apart true false e = refl
apart false true e = refl
apart false false e = not-both false e refl

alike : (a b : Bool) → not (beq a b) ≡ false → a ≡ b
alike true true e = refl
alike true false e = not-both true refl e
alike false true e = not-both true refl e
alike false false e = refl

-- by the step s, which is d
module _ (n d : ℕ) (gap major : Bool) {s : ℕ} (step : s ≡ d) (within : n + d ≤ last_count) {kind : Bool} (is : kind ≡ is_major (n + s)) where
  wrong : not (beq kind major) ≡ true → ◌≡◌ {A = Verdict} (Err WrongKind) (following n d gap major)
  wrong e = sym (follows-wrong n d gap major within (ap (λ k. is_major (n + k)) (sym step) ∙ sym is ∙ apart kind major e))

  right : not (beq kind major) ≡ false → {missed : Bool} → missed ≡ missed_major n (n + s)
      → Ok (record { n = n + s; gap = gap; missed = missed }) ≡ following n d gap major
  right e q =
      rw (q, step) (sym (follows-right n d gap major within (ap (λ k. is_major (n + k)) (sym step) ∙ sym is ∙ alike kind major e)))

pub returns-then-is_major-major : goal.returns-then-is_major-major
returns-then-is_major-major c =
    let a = c.args in wrong a.n a.d a.gap a.major c.from-step.ensures (omega arith) c.is_major.ensures c.if-is_major-major.true

pub returns : goal.returns
returns c =
    let a = c.args in
    right a.n a.d a.gap a.major c.from-step.ensures (omega arith) c.is_major.ensures c.if-is_major-major.false c.missed_major.ensures
