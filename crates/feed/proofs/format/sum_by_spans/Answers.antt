-- `feed::format::sum_by_spans` meets its contract. The loop's invariant: the sum is that of all bytes but the spans that are left.
-- Assumes nothing.
use Rattle.std.proofs.Common.{◌≡◌, ℕ, ◌+◌, ◌%◌, ◌^◌, ◌<◌, List, length, subst, sym, ap, ◌∙◌, rules}
use Rattle.feed.specs.Format.{sum_of}
use Rattle.feed.proofs.Records.Spans.{long_span, Spanning, spanning-all, spanning-next, spanning-end}
use Rattle.feed.proofs.format.sum_by_spans.Goals as goal

pub loop-span-init : goal.loop-span-init
loop-span-init c =
    let s = c.args.s.now in
    let made = c.chunks_exact-spans in
    let at : c.into_iter-span-iterator.result ≡ made.result = c.into_iter-span-iterator.ensures.into_iter_gives in
    let rest : c.into_iter-span-iterator.result.rest.now ≡ s = ap (λ x. x.rest.now) at ∙ made.ensures.rest in
    let size : made.result.size ≡ long_span = made.ensures.size in
    (ap (λ x. x.size) at ∙ size, subst (λ (r : List ℕ). Spanning s r 0) (sym rest) (spanning-all s))

pub loop-span-preserved : goal.loop-span-preserved
loop-span-preserved c =
    let at = c.loop-span in
    let step = c.in-Some.ensures.steps in (
      step.0 ∙ at.invariant.0,
      subst (λ (n : ℕ). Spanning c.args.s.now c.next.new.self.rest.now ((at.t + n) % 2 ^ 16)) (sym c.sum-t.ensures)
          (spanning-next c.args.s.now at.span-iterator.rest.now c.in-Some.span.now c.next.new.self.rest.now at.t at.invariant.1
          step.1.0 (step.1.1 ∙ at.invariant.0)),
    )

pub returns : goal.returns
returns c =
    let at = c.loop-span in
    let left : length at.span-iterator.rest.now < at.span-iterator.size = search rules in
    spanning-end c.args.s.now at.span-iterator.rest.now at.t c.sum.result at.invariant.1
    (subst (λ (n : ℕ). length at.span-iterator.rest.now < n) at.invariant.0 left)
    (c.sum.ensures ∙ ap sum_of (c.remainder-rest.ensures ∙ c.chunks_exact-spans.ensures.remainder))
