-- 01, "What each claim has to tie down": one outcome for steps, starts, calls and runs, the outbox included. Assumes nothing.
use mathlib.Core.Path.{refl, sym, ap, ◌∙◌}
use Rattle.promises.specs.Outcomes.{OneOutcome}
use Rattle.feed.specs.contracts.step.step as step
use Rattle.feed.proofs.step.step.Reads as step-reads
use Rattle.feed.specs.contracts.call.Monitor.start as monitor-start
use Rattle.feed.proofs.call.Monitor.start.Reads as monitor-start-reads
use Rattle.feed.specs.contracts.call.Monitor.start_from as monitor-start-from
use Rattle.feed.proofs.call.Monitor.start_from.Reads as monitor-start-from-reads
use Rattle.feed.specs.contracts.call.Monitor.call as monitor-call
use Rattle.feed.proofs.call.Monitor.call.Reads as monitor-call-reads
use Rattle.feed.specs.contracts.call.Monitor.run as monitor-run
use Rattle.feed.proofs.call.Monitor.run.Reads as monitor-run-reads

pub step-one : OneOutcome step.ended step-reads.Post
step-one κs a x x' w w' p q = (p ∙ sym q, refl)

pub monitor-start-one : OneOutcome monitor-start.ended monitor-start-reads.Post
monitor-start-one κs a x x' w w' p q = (p ∙ sym q, refl)

pub monitor-start-from-one : OneOutcome monitor-start-from.ended monitor-start-from-reads.Post
monitor-start-from-one κs a x x' w w' p q = (p ∙ sym q, refl)

pub monitor-call-one : OneOutcome monitor-call.ended monitor-call-reads.Post
monitor-call-one κs a x x' w w' p q = (p.0 ∙ sym q.0, ap (λ l. (tt, (tt, (l, tt)))) (p.1 ∙ sym q.1))

pub monitor-run-one : OneOutcome monitor-run.ended monitor-run-reads.Post
monitor-run-one κs a x x' w w' p q =
    let u = p.used ∙ sym q.used in
    let n = p.written ∙ sym q.written in
    let e = p.more ∙ sym q.more in
    let m = p.monitor ∙ sym q.monitor in
    let o = p.outbox ∙ sym q.outbox in
    (λ i. record { used = u i; written = n i; more = e i; monitor = m i }, ap (λ l. (tt, (tt, (l, tt)))) o)
