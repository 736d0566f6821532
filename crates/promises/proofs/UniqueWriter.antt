-- 01, "What each claim has to tie down": one outcome for the writer. Assumes nothing.
use mathlib.Core.Path.{refl, sym, ap, ◌∙◌}
use Rattle.promises.specs.Outcomes.{OneOutcome}
use Rattle.writer.specs.contracts.answer.number as writing-number
use Rattle.writer.proofs.answer.number.Reads as writing-number-reads
use Rattle.writer.specs.contracts.write.write_minor as write-minor
use Rattle.writer.proofs.write.write_minor.Reads as write-minor-reads
use Rattle.writer.specs.contracts.write.write_major as write-major
use Rattle.writer.proofs.write.write_major.Reads as write-major-reads

pub writing-number-one : OneOutcome writing-number.ended writing-number-reads.Post
writing-number-one κs a x x' w w' p q = (p ∙ sym q, refl)

pub write-minor-one : OneOutcome write-minor.ended write-minor-reads.Post
write-minor-one κs a x x' w w' p q = (ap (λ y. y.answer) (p ∙ sym q), ap (λ y. (tt, (y.outbox, tt))) (p ∙ sym q))

pub write-major-one : OneOutcome write-major.ended write-major-reads.Post
write-major-one κs a x x' w w' p q = (ap (λ y. y.answer) (p ∙ sym q), ap (λ y. (tt, (y.outbox, tt))) (p ∙ sym q))
