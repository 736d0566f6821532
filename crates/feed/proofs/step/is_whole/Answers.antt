-- `feed::step::is_whole` meets its contract. Assumes nothing.
use Rattle.std.proofs.Common.{sym, ◌∙◌}
use Rattle.feed.specs.Format.{look, settles}
use Rattle.feed.specs.Step.{is_whole}
use Rattle.feed.proofs.Records.Lengths.{by-test, shows-settles}
use Rattle.feed.proofs.step.is_whole.Goals as goal

pub returns-in-Settles : goal.returns-in-Settles
unfolding is_whole
returns-in-Settles c =
    let seen = sym c.look_at.ensures ∙ c.in-Settles.is in
    rw (seen, c.length_of.ensures)

pub returns-in_default : goal.returns-in_default
unfolding is_whole
returns-in_default c =
    let s = c.args.s.now in
    by-test (settles (look s))
    (λ t.
    let x = shows-settles (look s) t in
    let q = c.look_at.ensures ∙ x.1 in
    absurd (c.in_default.not-Settles _ q))
    (λ t. rw t)
