-- `writer::record::SamplePart::put` meets its contract. Assumes nothing.
use mathlib.Core.Path.{◌≡◌, refl, ap, ◌∙◌}
use mathlib.Core.List.{[], ◌∷◌, ◌++◌}
use Prim.Native.Nat.{◌*◌}
use borrow.Author.Rules.{rules}
use borrow.Rule.Slice.PartMut.{put_mid}
use lib.ListN.{length, drop}
use Rattle.feed.specs.Size.{word_length, valves_in}
use Rattle.feed.specs.Bytes.{in_four}
use Rattle.feed.proofs.Reports.Written.{put-part}
use Rattle.writer.specs.RecordBytes.{sample_bytes}
use Rattle.writer.proofs.Laid.{sample-laid}
use Rattle.writer.proofs.record.SamplePart.put.Goals as goal

pub returns : goal.returns
unfolding sample_bytes
returns c =
    let a = c.args in
    let d = a.b.now in
    let x = c.put_four.new.s in
    let y = c.put_four-2.new.s in
    let z = c.put_four-3.new.s in
    let ex : x ≡ in_four a.self.commanded =
    put-part (in_four a.self.commanded) d x 0 word_length refl (search rules) c.put_four.ensures in
    let ey : y ≡ in_four a.self.pressure =
    put-part (in_four a.self.pressure) (x ++ drop word_length d) y word_length (2 * word_length) refl (search rules)
    c.put_four-2.ensures in
    let ez : z ≡ in_four a.self.driver =
    put-part (in_four a.self.driver) (put_mid word_length word_length (x ++ drop word_length d) y) z (2 * word_length) valves_in refl
    (search rules) c.put_four-3.ensures in
    sample-laid d x y z a.self.valves (search rules) (ap length ex) (ap length ey) (ap length ez)
    ∙ (λ i. ex i ++ (ey i ++ (ez i ++ (a.self.valves ∷ []))))
