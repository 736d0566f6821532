-- `feed::calm::calm_after` meets its contract. Assumes nothing.
use Rattle.std.proofs.Common.{◌≡◌, Bool, true, false, ◌&&◌, eqb, sym, ap, ◌∙◌, ap₂}
use Rattle.cycle.specs.Size.{string_count}
use Rattle.cycle.specs.Answers.{is_taken}
use Rattle.cycle.specs.Calm.{all_calm}
use Rattle.feed.specs.Inside.Calm.{turned_words, calm_after}
use Rattle.feed.proofs.calm.calm_after.Goals as goal
use Rattle.feed.proofs.calm.calm_after.Goals.{After-all_calm}

told : (c : goal.After-all_calm) (b : Bool) → (c.is_taken.result && (eqb c.args.count 0 && c.all_calm.result)) ≡ b
    → (is_taken c.args.answer && (eqb c.args.count 0 && all_calm string_count c.args.hall.strings)) ≡ b
told c b e = sym (ap₂ (λ (x y : Bool). x && (eqb c.args.count 0 && y)) c.is_taken.ensures c.all_calm.ensures) ∙ e

pub returns-then-is_taken-count : goal.returns-then-is_taken-count
unfolding calm_after
returns-then-is_taken-count c =
    let jets = c.mapped_words-jets.ensures in
    let turned = c.turned_words-turned.ensures in (
      rw (told (goal.at.returns-then-is_taken-count c).After-all_calm true c.if-is_taken-count.true, ← jets, turned.0),
      (jets, (turned.0 ∙ ap turned_words jets, rw jets at turned.1)),
    )

pub returns-else-is_taken-count : goal.returns-else-is_taken-count
unfolding calm_after
returns-else-is_taken-count c = (rw (told (goal.at.returns-else-is_taken-count c).After-all_calm false c.if-is_taken-count.false), tt)
