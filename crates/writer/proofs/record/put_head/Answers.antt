-- `writer::record::put_head` meets its contract. Assumes nothing.
use mathlib.Core.Path.{◌≡◌, refl, ap, ◌∙◌}
use mathlib.Core.List.{List, [], ◌∷◌, ◌++◌}
use Prim.Native.Nat.{ℕ}
use borrow.Author.Rules.{rules}
use lib.ListN.{length}
use lib.Seq.{sets, length-sets}
use Rattle.feed.specs.Size.{mark_byte, wire_at, path_at}
use Rattle.feed.specs.Bytes.{in_two}
use Rattle.feed.proofs.Reports.Written.{put-part}
use Rattle.writer.specs.RecordBytes.{head_bytes}
use Rattle.writer.proofs.Laid.{head-laid}
use Rattle.writer.proofs.record.put_head.Goals as goal

-- the mark's two bytes
abbrev marks : ℕ → List ℕ
marks mark = mark_byte ∷ mark ∷ []

pub returns : goal.returns
unfolding head_bytes
returns c =
    let a = c.args in
    let d = a.b.now in
    let y = c.put_two.new.s in
    let z = length-sets d 0 (marks a.mark) in
    let e : y ≡ in_two a.wire =
    put-part (in_two a.wire) (sets d 0 (marks a.mark)) y wire_at path_at refl (search rules) c.put_two.ensures in
    head-laid d y mark_byte a.mark a.path (search rules) (ap length e)
    ∙ ap (λ (t : List ℕ). mark_byte ∷ a.mark ∷ t ++ (a.path ∷ [])) e
