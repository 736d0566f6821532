-- `feed::reader::calm` meets its contract. Assumes nothing.
use Rattle.std.proofs.Common.{◌≡◌, ℕ, ◌-◌, min, length, ap, ◌∙◌, rules, le-ltb, lt-ltb, ne_eqb}
use Rattle.feed.specs.Format.{length_marked}
use Rattle.feed.specs.Inside.Finding.{calm_of}
use Rattle.feed.proofs.Reading.Calms.{calm_marked}
use Rattle.feed.proofs.reader.calm.Goals as goal
use Rattle.feed.proofs.reader.calm.Goals.{After-length_marked-n}

pub returns-then-s-lt-MARK_LENGTH : goal.returns-then-s-lt-MARK_LENGTH
returns-then-s-lt-MARK_LENGTH c = simp (lt-ltb _ _ c.if-s-lt-MARK_LENGTH.true)

pub returns-then-s-ne-MARK : goal.returns-then-s-ne-MARK
returns-then-s-ne-MARK c = simp (le-ltb _ _ c.if-s-lt-MARK_LENGTH.false, ne_eqb _ _ c.if-s-ne-MARK.true)

-- a mark is at the front
marked : (c : goal.After-length_marked-n) (k : ℕ)
    → k ≡ min c.args.left
    (c.length_marked-n.result - length c.args.s.now - 1)
    → k ≡ calm_of c.args.s.now c.args.left
marked c k e =
    let m = c.length_marked-n.ensures ∙ ap length_marked c.mark_of.ensures in
    calm_marked c.args.s.now _ _ k c.if-s-lt-MARK_LENGTH.false c.if-s-ne-MARK.false m e

pub returns-then-n-s : goal.returns-then-n-s
returns-then-n-s c = marked (goal.at.returns-then-n-s c).After-length_marked-n 0 (search rules)

pub returns : goal.returns
returns c = marked (goal.at.returns c).After-length_marked-n _ (search rules)
