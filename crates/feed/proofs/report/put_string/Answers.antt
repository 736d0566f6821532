-- `feed::report::put_string` meets its contract. Assumes nothing.
use Rattle.std.proofs.Common.{◌≡◌, ℕ, ◌%◌, List, [], ◌∷◌, ◌++◌, length, refl, ap, ◌∙◌, rules}
use Rattle.feed.specs.Size.{word_length}
use Rattle.feed.specs.Bytes.{in_four}
use Rattle.feed.specs.Report.{string_bytes}
use Rattle.feed.proofs.Reports.Written.{put-part, set_last}
use Rattle.feed.proofs.report.put_string.Goals as goal

pub returns : goal.returns
unfolding string_bytes
returns c =
    let a = c.args in
    let y = c.put_four.new.s in
    let e : y ≡ in_four a.x.fail =
    put-part (in_four a.x.fail) a.s.now y 0 word_length refl (search rules) c.put_four.ensures in
    set_last a.s.now y word_length (a.x.close % 256) (ap length e) (search rules)
    ∙ ap (λ (t : List ℕ). t ++ (a.x.close % 256 ∷ [])) e
