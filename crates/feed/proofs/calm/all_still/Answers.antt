-- `feed::calm::all_still` meets its contract. Assumes nothing.
use Rattle.std.proofs.Common.{◌≡◌, Bool, ◌&&◌, eqb, get_or, refl, ap, ◌∙◌, ap₂, not-suc-le-zero, add-one, arith, rules}
use Rattle.bits.specs.Bit.{every}
use Rattle.cycle.specs.Size.{string_count}
use Rattle.cycle.specs.Hall.{no_requests, past_string}
use Rattle.cycle.specs.Calm.{quiet, finds_none}
use Rattle.cycle.specs.declared.values.Sample.{Sample}
use Rattle.cycle.specs.declared.values.Requests.{Requests}
use Rattle.feed.specs.Size.{path_at}
use Rattle.feed.specs.Inside.Calm.{turned_sample}
use Rattle.feed.proofs.Records.TurnedWords.{below_next}
use Rattle.feed.proofs.Calls.Calms.{quiet_at, WordsAt, all-quiet-told}
use Rattle.feed.proofs.Calls.CalmMajors.{still_at, all-still-told}
use Rattle.feed.proofs.calm.all_still.Goals as goal

pub loop-k-init : goal.loop-k-init
unfolding every
loop-k-init c = (refl, refl, λ j b. absurd (not-suc-le-zero b))

pub loop-k-preserved : goal.loop-k-preserved
unfolding every
loop-k-preserved c =
    let a = c.args in
    let string = get_or a.hall.strings c.loop-k.k past_string in
    let sample = c.sample_at-sample.ensures in
    let turned = c.turned_sample.ensures in
    let none : c.default-none.result ≡ no_requests = search rules in (
      rw add-one
          (ap₂ (λ (x y : Bool). x && y) c.loop-k.invariant.0
          (c.is_quiet-quiet.ensures
          ∙ ap (λ (x : Sample). quiet (get_or a.calm.turned c.loop-k.k 0) x string) (turned.0 ∙ ap turned_sample sample))),
      rw add-one
          (ap₂ (λ (x y : Bool). x && y) c.loop-k.invariant.1
          (c.finds_none-still.ensures
          ∙ ap₂ (λ (x : Sample) (q : Requests). finds_none (get_or a.calm.jets c.loop-k.k 0) x q string.on string.close) sample none)),
      below_next (WordsAt a.s.now) c.loop-k.k c.loop-k.invariant.2 (rw sample at turned.1, rw sample at turned.2),
    )

pub returns : goal.returns
returns c =
    let a = c.args in
    let l = a.s.now in
    let e : c.loop-k.k ≡ string_count = omega arith in
    let quiet = c.loop-k.invariant.0 ∙ ap (λ n. every n (quiet_at l a.calm.turned a.hall.strings)) e in
    let still = c.loop-k.invariant.1 ∙ ap (λ n. every n (still_at l a.calm.jets a.hall.strings)) e in
    ap₂ (λ (x y : Bool). x && y)
    (ap (λ (b : Bool). eqb (get_or l path_at 0) 0 && b) quiet
    ∙ all-quiet-told l a.calm.turned a.hall c.requires.jets_value.1.0 c.requires.jets_value.1.1 (λ s b. c.loop-k.invariant.2 s (omega arith)))
    (still ∙ all-still-told l a.calm.jets a.hall c.requires.jets_value.0 c.requires.major_length_in_bounds.1)
