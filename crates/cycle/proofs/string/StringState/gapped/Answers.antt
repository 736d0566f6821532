-- `cycle::string::StringState::gapped` meets its contract. Assumes nothing.
use Rattle.std.proofs.Common.{◌≡◌, ℕ, ◌∙◌, ap, rules}
use Rattle.cycle.specs.Words.{gapped, with_off, with_on, no_off, no_on}
use Rattle.cycle.specs.declared.slots.OffSlots.{OffSlots}
use Rattle.cycle.proofs.string.StringState.gapped.Goals as goal
use Rattle.cycle.proofs.string.StringState.gapped.Goals.{then-next, else-next}

pub returns-then-next-2 : goal.returns-then-next-2
unfolding gapped
returns-then-next-2 c =
    let on : c.default-self-then-next-2.result ≡ no_on = search rules in
    elim c.if-next.branch [
      | then-next w ↦
          let off : w.default-self.result ≡ no_off = search rules in
          rw (w.if-next.true, c.if-next-2.true, on)
          (ap (with_on no_on) (w.self-is ∙ ap (λ (x : OffSlots ℕ). with_off x c.args.self) off))
      | else-next w ↦ rw (w.if-next.false, c.if-next-2.true, on) (ap (with_on no_on) w.self-is)
    ]

pub returns-else-next-2 : goal.returns-else-next-2
unfolding gapped
returns-else-next-2 c =
    elim c.if-next.branch [
      | then-next w ↦
          let off : w.default-self.result ≡ no_off = search rules in
          rw (w.if-next.true, c.if-next-2.false) (w.self-is ∙ ap (λ (x : OffSlots ℕ). with_off x c.args.self) off)
      | else-next w ↦ rw (w.if-next.false, c.if-next-2.false) w.self-is
    ]
