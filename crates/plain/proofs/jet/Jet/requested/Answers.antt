-- `plain::jet::Jet::requested` meets its contract. Assumes nothing.
use mathlib.Core.Path.{◌≡◌, sym, ap, ◌∙◌}
use mathlib.Core.Bool.{Bool, true, false, cond}
use Rattle.cycle.specs.Jets.{reenabled, requested}
use Rattle.plain.specs.Jet.{by}
use Rattle.plain.specs.declared.jet.Jet.{Jet}
use Rattle.plain.proofs.jet.Jet.requested.Goals as goal
use Rattle.plain.proofs.jet.Jet.requested.Goals.{else-reenable-via-then-reenable+else-self, else-reenable-via-else-reenable}

-- its valve remembered as open, the jet is re-enabled
opened-heeds : (x : Jet) → x.standing.valve ≡ true → by reenabled x ≡ by (requested false true) x
unfolding requested
opened-heeds x e = ap (λ (b : Bool). by (λ s. cond b (reenabled s) s) x) (sym e)

-- as closed, it is not
closed-ignores : (x : Jet) → x.standing.valve ≡ false → x ≡ by (requested false true) x
unfolding requested
closed-ignores x e = ap (λ (b : Bool). by (λ s. cond b (reenabled s) s) x) (sym e)

pub returns-then-inhibit : goal.returns-then-inhibit
unfolding requested
returns-then-inhibit c = rw c.if-inhibit.true c.inhibited.ensures

pub returns-then-self : goal.returns-then-self
unfolding requested
returns-then-self c =
    rw (c.if-inhibit.false, c.if-reenable.true)
    (c.reenabled.ensures ∙ opened-heeds c.args.self c.if-self.true)

pub returns-else-reenable : goal.returns-else-reenable
unfolding requested
returns-else-reenable c =
    elim c.else-reenable.branch [
      | else-reenable-via-then-reenable+else-self w ↦
          rw (c.if-inhibit.false, w.if-reenable.true) (closed-ignores c.args.self w.if-self.false)
      | else-reenable-via-else-reenable w ↦ rw (c.if-inhibit.false, w.if-reenable.false)
    ]
