-- `feed::reader::next_mark` meets its contract. The invariant of both loops: the next mark from `at` on is the next from `from` on.
-- Assumes nothing.
use Rattle.std.proofs.Common.{◌≡◌, true, take, drop, sym, ◌∙◌, arith, rules}
use native.Mathlib.Nat.{add-sub_cancel_left}
use Rattle.feed.specs.Inside.Finding.{all_noise}
use Rattle.feed.proofs.Reading.Noise.{next_start, next-behind, next-other, next-found, next-none}
use Rattle.feed.proofs.reader.next_mark.Goals as goal

pub loop-at-init : goal.loop-at-init
loop-at-init c = next_start _ _ c.requires

pub loop-at-preserved : goal.loop-at-preserved
loop-at-preserved c =
    let piece = c.args.piece.now in
    let at = c.loop-at.at in
    let yes = c.if-all_noise.true in
    let e : all_noise (take 16 (drop at piece)) ≡ true = rw (add-sub_cancel_left at 16) at (sym c.all_noise.ensures ∙ yes) in
    next-behind piece _ at c.loop-at.invariant 16 (omega arith) e

pub loop-at-2-init : goal.loop-at-2-init
loop-at-2-init c = c.loop-at.invariant

pub returns-else-piece-at-ne-MARK : goal.returns-else-piece-at-ne-MARK
returns-else-piece-at-ne-MARK c =
    next-found _ _ _ c.loop-at-2.invariant (search rules) c.if-piece-at-ne-MARK.false

pub loop-at-2-preserved : goal.loop-at-2-preserved
loop-at-2-preserved c =
    next-other _ _ _ c.loop-at-2.invariant (search rules) c.if-piece-at-ne-MARK.true

pub returns-after-loop-at-2 : goal.returns-after-loop-at-2
returns-after-loop-at-2 c = next-none _ _ _ c.loop-at-2.invariant (search rules)
