-- `feed::calm::all_quiet` meets its contract. Assumes nothing.
use Rattle.std.proofs.Common.{◌≡◌, Bool, ◌&&◌, eqb, get_or, refl, ap, ◌∙◌, ap₂, not-suc-le-zero, add-one, arith}
use Rattle.bits.specs.Bit.{every}
use Rattle.cycle.specs.Size.{string_count}
use Rattle.cycle.specs.Hall.{past_string}
use Rattle.cycle.specs.Calm.{quiet}
use Rattle.cycle.specs.declared.values.Sample.{Sample}
use Rattle.feed.specs.Size.{path_at}
use Rattle.feed.specs.Inside.Calm.{turned_sample}
use Rattle.feed.proofs.Records.TurnedWords.{below_next}
use Rattle.feed.proofs.Calls.Calms.{quiet_at, WordsAt, all-quiet-told}
use Rattle.feed.proofs.calm.all_quiet.Goals as goal

pub loop-k-init : goal.loop-k-init
unfolding every
loop-k-init c = (refl, λ j b. absurd (not-suc-le-zero b))

pub loop-k-preserved : goal.loop-k-preserved
unfolding every
loop-k-preserved c =
    let a = c.args in
    let sample = c.sample_at-sample.ensures in
    let turned = c.turned_sample.ensures in (
      rw add-one
          (ap₂ (λ (x y : Bool). x && y) c.loop-k.invariant.0
          (c.is_quiet-found.ensures
          ∙ ap (λ (x : Sample). quiet (get_or a.turned c.loop-k.k 0) x (get_or a.hall.strings c.loop-k.k past_string))
          (turned.0 ∙ ap turned_sample sample))),
      below_next (WordsAt a.s.now) c.loop-k.k c.loop-k.invariant.1 (rw sample at turned.1, rw sample at turned.2),
    )

pub returns : goal.returns
returns c =
    let l = c.args.s.now in
    let e : c.loop-k.k ≡ string_count = omega arith in
    ap (λ (b : Bool). eqb (get_or l path_at 0) 0 && b)
    (c.loop-k.invariant.0 ∙ ap (λ n. every n (quiet_at l c.args.turned c.args.hall.strings)) e)
    ∙ all-quiet-told l c.args.turned c.args.hall c.requires.turned_jets.0 c.requires.turned_jets.1
    (λ s b. c.loop-k.invariant.1 s (omega arith))
