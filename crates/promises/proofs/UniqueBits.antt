-- 01, "What each claim has to tie down": any two outcomes that a claim of `bits` allows are equal. Assumes nothing.
use mathlib.Core.Path.{refl, sym, ◌∙◌}
use Rattle.promises.specs.Outcomes.{OneOutcome}
use Rattle.bits.specs.contracts.without as without
use Rattle.bits.proofs.without.Reads as without-reads
use Rattle.bits.specs.contracts.has as has
use Rattle.bits.proofs.has.Reads as has-reads
use Rattle.bits.specs.contracts.with_bit as with-bit
use Rattle.bits.proofs.with_bit.Reads as with-bit-reads
use Rattle.bits.specs.contracts.meets as meets
use Rattle.bits.proofs.meets.Reads as meets-reads

pub without-one : OneOutcome without.ended without-reads.Post
without-one κs a x x' w w' p q = (p ∙ sym q, refl)

pub has_one : OneOutcome has.ended has-reads.Post
has_one κs a x x' w w' p q = (p ∙ sym q, refl)

pub with-bit-one : OneOutcome with-bit.ended with-bit-reads.Post
with-bit-one κs a x x' w w' p q = (p ∙ sym q, refl)

pub meets-one : OneOutcome meets.ended meets-reads.Post
meets-one κs a x x' w w' p q = (p ∙ sym q, refl)
