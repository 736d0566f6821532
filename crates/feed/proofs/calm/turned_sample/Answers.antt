-- `feed::calm::turned_sample` meets its contract. Assumes nothing.
use Rattle.feed.proofs.calm.turned_sample.Goals as goal

pub returns : goal.returns
returns c =
    let first = c.turned32.ensures.value in
    let second = c.turned32-2.ensures.value in
    (rw (first.0, second.0), first.1, second.1)
