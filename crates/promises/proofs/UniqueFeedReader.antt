-- 01, "What each claim has to tie down": one outcome for bytes, masks, values, sum, reader and report. Assumes nothing.
use mathlib.Core.Path.{refl, sym, ap, ◌∙◌}
use Rattle.promises.specs.Outcomes.{OneOutcome}
use Rattle.feed.specs.contracts.bytes.read_two as read-two
use Rattle.feed.proofs.bytes.read_two.Reads as read-two-reads
use Rattle.feed.specs.contracts.bytes.read_four as read-four
use Rattle.feed.proofs.bytes.read_four.Reads as read-four-reads
use Rattle.feed.specs.contracts.bytes.put_two as put_two
use Rattle.feed.proofs.bytes.put_two.Reads as put_two-reads
use Rattle.feed.specs.contracts.bytes.put_four as put_four
use Rattle.feed.proofs.bytes.put_four.Reads as put_four-reads
use Rattle.feed.specs.contracts.masks.masks_of as masks-of
use Rattle.feed.proofs.masks.masks_of.Reads as masks-of-reads
use Rattle.feed.specs.contracts.values.read_minor as read-minor
use Rattle.feed.proofs.values.read_minor.Reads as read-minor-reads
use Rattle.feed.specs.contracts.values.read_major as read-major
use Rattle.feed.proofs.values.read_major.Reads as read-major-reads
use Rattle.feed.specs.contracts.format.sum as sum
use Rattle.feed.proofs.format.sum.Reads as sum-reads
use Rattle.feed.specs.contracts.reader.find_front as find-front
use Rattle.feed.proofs.reader.find_front.Reads as find-front-reads
use Rattle.feed.specs.contracts.hand.Reader.empty as reader-empty
use Rattle.feed.proofs.hand.Reader.empty.Reads as reader-empty-reads
use Rattle.feed.specs.contracts.hand.Reader.next as reader-next
use Rattle.feed.proofs.hand.Reader.next.Reads as reader-next-reads
use Rattle.feed.specs.contracts.report.put_shown as put-shown
use Rattle.feed.proofs.report.put_shown.Reads as put-shown-reads
use Rattle.feed.specs.contracts.report.put_report as put-report
use Rattle.feed.proofs.report.put_report.Reads as put-report-reads

pub read-two-one : OneOutcome read-two.ended read-two-reads.Post
read-two-one κs a x x' w w' p q = (p ∙ sym q, refl)

pub read-four-one : OneOutcome read-four.ended read-four-reads.Post
read-four-one κs a x x' w w' p q = (p ∙ sym q, refl)

pub put-two-one : OneOutcome put_two.ended put_two-reads.Post
put-two-one κs a x x' w w' p q = (refl, ap (λ l. (l, (tt, tt))) (p ∙ sym q))

pub put-four-one : OneOutcome put_four.ended put_four-reads.Post
put-four-one κs a x x' w w' p q = (refl, ap (λ l. (l, (tt, tt))) (p ∙ sym q))

pub masks-of-one : OneOutcome masks-of.ended masks-of-reads.Post
masks-of-one κs a x x' w w' p q = (p.0 ∙ sym q.0, refl)

pub read-minor-one : OneOutcome read-minor.ended read-minor-reads.Post
read-minor-one κs a x x' w w' p q = (p ∙ sym q, refl)

pub read-major-one : OneOutcome read-major.ended read-major-reads.Post
read-major-one κs a x x' w w' p q = (p ∙ sym q, refl)

pub sum_one : OneOutcome sum.ended sum-reads.Post
sum_one κs a x x' w w' p q = (p ∙ sym q, refl)

pub find-front-one : OneOutcome find-front.ended find-front-reads.Post
find-front-one κs a x x' w w' p q = (p ∙ sym q, refl)

pub reader-empty-one : OneOutcome reader-empty.ended reader-empty-reads.Post
reader-empty-one κs a x x' w w' p q = (p ∙ sym q, refl)

pub reader-next-one : OneOutcome reader-next.ended reader-next-reads.Post
reader-next-one κs a x x' w w' p q = (p ∙ sym q, refl)

pub put-shown-one : OneOutcome put-shown.ended put-shown-reads.Post
put-shown-one κs a x x' w w' p q = (p.0 ∙ sym q.0, ap (λ l. (l, (tt, (tt, tt)))) (p.1 ∙ sym q.1))

pub put-report-one : OneOutcome put-report.ended put-report-reads.Post
put-report-one κs a x x' w w' p q = (p.0 ∙ sym q.0, ap (λ l. (l, (tt, (tt, tt)))) (p.1 ∙ sym q.1))
