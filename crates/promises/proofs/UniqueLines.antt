-- 01, "What each claim has to tie down": one outcome for the function of `lines` that asks nothing of the system. Assumes nothing.
use mathlib.Core.Path.{refl, sym, ◌∙◌}
use Rattle.promises.specs.Outcomes.{OneOutcome}
use Rattle.lines.specs.contracts.ending.ended_at as ended_at
use Rattle.lines.proofs.ending.ended_at.Reads as ended_at-reads

pub ended-at-one : OneOutcome ended_at.ended ended_at-reads.Post
ended-at-one κs a x x' w w' p q = (p ∙ sym q, refl)
