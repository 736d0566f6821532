-- `feed::step::none_found` meets its contract. Assumes nothing.
use Rattle.feed.proofs.step.none_found.Goals as goal

pub returns : goal.returns
returns c = rw (← c.sample_at-sample.ensures, ← c.requests_at-q.ensures) c.finds_none.ensures
