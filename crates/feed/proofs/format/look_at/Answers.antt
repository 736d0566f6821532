-- `feed::format::look_at` meets its contract. Assumes nothing.
use Rattle.std.proofs.Common.{◌≡◌, sym, ◌∙◌, eq-eqb, ne_eqb}
use Rattle.feed.specs.Format.{marked_look, look}
use Rattle.feed.proofs.Records.Looks.{look-marked}
use Rattle.feed.proofs.format.look_at.Goals as goal
use Rattle.feed.proofs.format.look_at.Goals.{After-mark_of-mark}

-- the bytes begin with a mark
mark : (c : goal.After-mark_of-mark) → look c.args.s.now
    ≡ marked_look c.mark_of-mark.result c.args.s.now
mark c =
    look-marked _ _ c.if-s-eq0.false c.if-s-ne-MARK.false c.if-s-eq1.false c.mark_of-mark.ensures

pub returns-then-s-eq0 : goal.returns-then-s-eq0
unfolding look
returns-then-s-eq0 c = simp (eq-eqb _ _ c.if-s-eq0.true)

pub returns-then-s-ne-MARK : goal.returns-then-s-ne-MARK
unfolding look
returns-then-s-ne-MARK c = simp (ne_eqb _ _ c.if-s-eq0.false, ne_eqb _ _ c.if-s-ne-MARK.true)

pub returns-then-s-eq1 : goal.returns-then-s-eq1
unfolding look
returns-then-s-eq1 c = simp (ne_eqb _ _ c.if-s-eq0.false, eq-eqb _ _ c.if-s-ne-MARK.false, eq-eqb _ _ c.if-s-eq1.true)

pub returns-in-None : goal.returns-in-None
unfolding marked_look
returns-in-None c = sym (mark (goal.at.returns-in-None c).After-mark_of-mark ∙ simp c.in-None.is)

pub returns-in-Some : goal.returns-in-Some
unfolding marked_look
returns-in-Some c = c.full_look.ensures ∙ sym (mark (goal.at.returns-in-Some c).After-mark_of-mark ∙ simp c.in-Some.is)
