-- `writer::record::RequestsPart::put` meets its contract. Assumes nothing.
use Rattle.std.proofs.Common.{◌≡◌, refl, ap, ap₂, ◌∙◌, List, ◌++◌, ℕ, length, drop, rules}
use Rattle.feed.specs.Size.{word_length}
use Rattle.feed.specs.Bytes.{in_four}
use Rattle.feed.proofs.Reports.Written.{put-part}
use Rattle.writer.specs.RecordBytes.{request_bytes}
use Rattle.writer.proofs.Laid.{lay-rest}
use Rattle.writer.proofs.record.RequestsPart.put.Goals as goal

pub returns : goal.returns
unfolding request_bytes
returns c =
    let a = c.args in
    let d = a.b.now in
    let y = c.put_four.new.s in
    let z = c.put_four-2.new.s in
    let x = y ++ drop word_length d in
    let ey : y ≡ in_four a.self.inhibit = put-part (in_four a.self.inhibit) d y 0 word_length refl (search rules) c.put_four.ensures in
    let ez : z ≡ in_four a.self.reenable =
    put-part (in_four a.self.reenable) x z word_length (length x) (search rules) (search rules) c.put_four-2.ensures in
    lay-rest d y z x word_length word_length refl (ap length ey) c.requires ∙ ap₂ (λ (s t : List ℕ). s ++ t) ey ez
