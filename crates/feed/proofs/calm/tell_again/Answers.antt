-- `feed::calm::tell_again` meets its contract. Assumes nothing.
use Rattle.std.proofs.Common.{◌≡◌, ℕ, ◌+◌, List, length, take, refl, ap, ◌∙◌, arith, length-append, length-take-le}
use borrow.Rule.Slice.PartMut.{put_mid}
use Rattle.feed.specs.Size.{count_at, count_length, strings_from, report_length}
use Rattle.feed.specs.Bytes.{in_four}
use Rattle.feed.proofs.Reports.Written.{put-part}
use Rattle.feed.proofs.Reports.Repeats.{put-number}
use Rattle.feed.proofs.calm.tell_again.Goals as goal

pub returns : goal.returns
returns c =
    let s = c.args.s.now in
    let r = take report_length s in
    let long : length r ≡ report_length = length-take-le report_length s (omega (arith, c.requires)) in
    let twice = c.repeat.ensures in
    let y = c.put_four.new.s in
    let four : y ≡ in_four c.args.n =
    put-part (in_four c.args.n) c.repeat.new.s y (report_length + count_at) (report_length + strings_from) refl
    (rw twice (rw (length-append r r, long) (omega arith))) c.put_four.ensures in
    ap (λ (t : List ℕ). put_mid (report_length + count_at) count_length t y) twice ∙ put-number r y c.args.n long four
