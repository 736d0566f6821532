-- `feed::call::turn` meets its contract. Assumes nothing.
use Rattle.std.proofs.Common.{◌≡◌, take, sym, ap, ◌∙◌, arith}
use Rattle.feed.specs.Format.{length_marked}
use Rattle.feed.specs.Inside.Finding.{long_of}
use Rattle.feed.proofs.Records.Lengths.{kind-long}
use Rattle.feed.proofs.Calls.Turning.{taken-short, found-whole, found-fits, count_fits, held_fits, turn-none, turn-some}
use Rattle.feed.proofs.call.turn.Goals as goal
use Rattle.feed.proofs.call.turn.Goals.{After-length_of-long}

pub returns-in_default : goal.returns-in_default
returns-in_default c =
    let a = c.args in
    turn-none (take a.count a.b.now) a.piece.now a.from c.find-f.result c.find-f.new.b
    (taken-short a.count a.b.now c.requires.count_le_most_held.0) c.requires.from_in_bounds.0 c.find-f.ensures a.hall a.out.now
    (ap length_marked c.in_default.is)

-- the length is that of the record found, and not 0
same : (c : goal.After-length_of-long) → c.length_of-long.result ≡ long_of c.find-f.result
same c = c.length_of-long.ensures ∙ sym (ap length_marked c.in-Some.is)

some : (c : goal.After-length_of-long) → long_of c.find-f.result ≡ 0 → ⊥
some c z = let e = same c in let n = c.length_of-long.ensures in omega (arith, kind-long c.in-Some.kind)

pub step_found-x-requires : goal.step_found-x-requires
step_found-x-requires c =
    let a = c.args in
    let held = take a.count a.b.now in
    let short = taken-short a.count a.b.now c.requires.count_le_most_held.0 in
    rw (same (goal.at.step_found-x-requires c).After-length_of-long) (record {
      long_in_bounds = found-fits held a.piece.now a.from c.find-f.result c.find-f.new.b short c.requires.from_in_bounds.0
          c.find-f.ensures (some (goal.at.step_found-x-requires c).After-length_of-long);
      piece_value = found-whole held a.piece.now a.from c.find-f.result c.find-f.new.b short c.requires.from_in_bounds.0
          c.find-f.ensures (some (goal.at.step_found-x-requires c).After-length_of-long);
    })

pub removed-left-requires : goal.removed-left-requires
removed-left-requires c =
    let a = c.args in
    let held = take a.count a.b.now in
    let short = taken-short a.count a.b.now c.requires.count_le_most_held.0 in
    rw (same (goal.at.removed-left-requires c).After-length_of-long) (record {
      count_in_bounds = count_fits held a.piece.now a.from c.find-f.result c.find-f.new.b short c.requires.from_in_bounds.0
          c.find-f.ensures (some (goal.at.removed-left-requires c).After-length_of-long);
      long_le_count = held_fits held a.piece.now a.from c.find-f.result c.find-f.new.b short c.requires.from_in_bounds.0
          c.find-f.ensures (some (goal.at.removed-left-requires c).After-length_of-long);
    })

pub returns : goal.returns
returns c =
    let a = c.args in
    let e = same (goal.at.returns c).After-length_of-long in
    turn-some (take a.count a.b.now) a.piece.now a.from c.find-f.result c.find-f.new.b
    (taken-short a.count a.b.now c.requires.count_le_most_held.0) c.requires.from_in_bounds.0 c.find-f.ensures
    (some (goal.at.returns c).After-length_of-long)
    a.hall a.out.now c.step_found-x.result c.removed-left.result c.removed-left.new.b c.write_report.new.out
    (rw e at c.step_found-x.ensures) (rw e at c.removed-left.ensures.0) (rw e at c.removed-left.ensures.1) c.write_report.ensures
