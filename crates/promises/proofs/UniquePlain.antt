-- 01, "What each claim has to tie down": one outcome for the plain engine and the monitor over it, the outbox included. Assumes nothing.
use mathlib.Core.Path.{refl, sym, ap, ◌∙◌}
use Rattle.promises.specs.Outcomes.{OneOutcome}
use Rattle.plain.specs.contracts.hall.Plain.fresh as plain-fresh
use Rattle.plain.proofs.hall.Plain.fresh.Reads as plain-fresh-reads
use Rattle.plain.specs.contracts.hall.Plain.minor as plain-minor
use Rattle.plain.proofs.hall.Plain.minor.Reads as plain-minor-reads
use Rattle.plain.specs.contracts.hall.Plain.major as plain-major
use Rattle.plain.proofs.hall.Plain.major.Reads as plain-major-reads
use Rattle.plain.specs.contracts.hall.start as plain-start
use Rattle.plain.proofs.hall.start.Reads as plain-start-reads
use Rattle.plain.specs.contracts.hall.Plain.shown as plain-shown
use Rattle.plain.proofs.hall.Plain.shown.Reads as plain-shown-reads
use Rattle.plain.specs.contracts.call.PlainMonitor.start as plain-monitor-start
use Rattle.plain.proofs.call.PlainMonitor.start.Reads as plain-monitor-start-reads
use Rattle.plain.specs.contracts.call.PlainMonitor.call as plain-monitor-call
use Rattle.plain.proofs.call.PlainMonitor.call.Reads as plain-monitor-call-reads

pub plain-fresh-one : OneOutcome plain-fresh.ended plain-fresh-reads.Post
plain-fresh-one κs a x x' w w' p q = (p ∙ sym q, refl)

pub plain-minor-one : OneOutcome plain-minor.ended plain-minor-reads.Post
plain-minor-one κs a x x' w w' p q = (p ∙ sym q, refl)

pub plain-major-one : OneOutcome plain-major.ended plain-major-reads.Post
plain-major-one κs a x x' w w' p q = (p ∙ sym q, refl)

pub plain-start-one : OneOutcome plain-start.ended plain-start-reads.Post
plain-start-one κs a x x' w w' p q = (p ∙ sym q, refl)

pub plain-shown-one : OneOutcome plain-shown.ended plain-shown-reads.Post
plain-shown-one κs a x x' w w' p q = (p ∙ sym q, refl)

pub plain-monitor-start-one : OneOutcome plain-monitor-start.ended plain-monitor-start-reads.Post
plain-monitor-start-one κs a x x' w w' p q = (p ∙ sym q, refl)

pub plain-monitor-call-one : OneOutcome plain-monitor-call.ended plain-monitor-call-reads.Post
plain-monitor-call-one κs a x x' w w' p q = (p.0 ∙ sym q.0, ap (λ l. (tt, (tt, (l, tt)))) (p.1 ∙ sym q.1))
