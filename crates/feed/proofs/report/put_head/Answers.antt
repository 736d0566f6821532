-- `feed::report::put_head` meets its contract. Assumes nothing.
use Rattle.std.proofs.Common.{ℕ, List, [], ◌∷◌, ◌++◌, refl, ap, ◌∙◌, rules}
use lib.Seq.{sets, length-sets}
use Rattle.feed.specs.Size.{mark_byte, count_at, count_length, strings_from}
use Rattle.feed.specs.Bytes.{in_four}
use Rattle.feed.specs.Report.{head_of}
use Rattle.feed.proofs.Reports.Written.{put-part, put_last}
use Rattle.feed.proofs.report.put_head.Goals as goal

-- what stands before the cycle number
abbrev front : ℕ → List ℕ
front answer = mark_byte ∷ mark_byte ∷ answer ∷ []

pub slice_bounds-put_four-end : goal.slice_bounds-put_four-end
slice_bounds-put_four-end c =
    let a = c.args in
    let z = length-sets a.s.now 0 (front a.answer) in
    search rules

pub shape_of-s : goal.shape_of-s
shape_of-s c =
    let a = c.args in
    let z = length-sets a.s.now 0 (front a.answer) in
    search rules

pub returns : goal.returns
unfolding head_of
returns c =
    let a = c.args in
    let y = c.put_four.new.s in
    let z = length-sets a.s.now 0 (front a.answer) in
    put_last a.s.now (front a.answer) y count_length (search rules)
    ∙ ap (λ (t : List ℕ). front a.answer ++ t)
    (put-part (in_four a.n) (sets a.s.now 0 (front a.answer)) y count_at strings_from refl (search rules)
    c.put_four.ensures)
