-- `feed::reader::find_front` meets its contract. The loop's invariant: the bytes from `at` on settle to what all bytes settle to.
-- Assumes nothing.
use Rattle.std.proofs.Common.{◌≡◌, ◌-◌, length, drop, sym, refl, ap, ◌∙◌, inl, inr, arith, length-drop, take_all}
use Rattle.feed.specs.Format.{look}
use Rattle.feed.proofs.Reading.Settling.{Goes, settle-drop}
use Rattle.feed.proofs.Reading.Fronts.{front-waits, front-settles, front-end}
use Rattle.feed.proofs.reader.find_front.Goals as goal
use Rattle.feed.proofs.reader.find_front.Goals.{in-Drops, in-Loses, After-look_at}

-- what is seen there
seen : (c : goal.After-look_at)
    → c.look_at.result ≡ look (drop c.loop-at.at c.args.s.now)
seen c =
    let at = c.loop-at.at in
    let s = c.args.s.now in
    c.look_at.ensures ∙ ap look (take_all (length s - at) (drop at s) (simp length-drop (omega arith)))

pub returns-in-Waits : goal.returns-in-Waits
returns-in-Waits c =
    front-waits c.args.s.now c.loop-at.at (omega arith) c.loop-at.invariant
    (sym (seen (goal.at.returns-in-Waits c).After-look_at) ∙ c.in-Waits.is)

pub returns-in-Settles : goal.returns-in-Settles
returns-in-Settles c =
    front-settles c.args.s.now c.loop-at.at (omega arith) c.loop-at.invariant _
    (sym (seen (goal.at.returns-in-Settles c).After-look_at) ∙ c.in-Settles.is)

pub loop-at-preserved : goal.loop-at-preserved
loop-at-preserved c =
    let at = c.loop-at.at in
    let s = c.args.s.now in
    let seen = seen (goal.at.loop-at-preserved c).After-look_at in
    let g : Goes (look (drop at s)) = elim c.match-look_at.branch [
      | in-Drops w ↦ inl (sym seen ∙ w.in-Drops.is)
      | in-Loses w ↦ inr (sym seen ∙ w.in-Loses.is)
    ] in
    sym (settle-drop s at (omega arith) g) ∙ c.loop-at.invariant

pub returns : goal.returns
returns c =
    let s = c.args.s.now in
    let e : c.loop-at.at ≡ length s = omega arith in
    front-end s (length s) (omega arith) (rw e at c.loop-at.invariant) refl
