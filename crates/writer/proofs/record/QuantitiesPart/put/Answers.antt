-- `writer::record::QuantitiesPart::put` meets its contract. Assumes nothing.
use Rattle.std.proofs.Common.{◌≡◌, refl, ap, ap₂, ◌∙◌, List, ◌++◌, ℕ, length, drop, rules}
use Rattle.feed.specs.Size.{quantity_length}
use Rattle.feed.specs.Bytes.{in_two}
use Rattle.feed.proofs.Reports.Written.{put-part}
use Rattle.writer.specs.RecordBytes.{quantity_bytes}
use Rattle.writer.proofs.Laid.{lay-rest}
use Rattle.writer.proofs.record.QuantitiesPart.put.Goals as goal

pub returns : goal.returns
unfolding quantity_bytes
returns c =
    let a = c.args in
    let d = a.b.now in
    let y = c.put_two.new.s in
    let z = c.put_two-2.new.s in
    let x = y ++ drop quantity_length d in
    let ey : y ≡ in_two a.self.fuel = put-part (in_two a.self.fuel) d y 0 quantity_length refl (search rules) c.put_two.ensures in
    let ez : z ≡ in_two a.self.oxidizer =
    put-part (in_two a.self.oxidizer) x z quantity_length (length x) (search rules) (search rules) c.put_two-2.ensures in
    lay-rest d y z x quantity_length quantity_length refl (ap length ey) c.requires ∙ ap₂ (λ (s t : List ℕ). s ++ t) ey ez
