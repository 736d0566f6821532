-- A bank, put as bytes, meets its contract. Assumes nothing.
use mathlib.Core.Path.{◌≡◌, refl, ap, ◌∙◌}
use mathlib.Core.List.{List, [], ◌∷◌, ◌++◌, append-nil}
use Prim.Native.Nat.{ℕ}
use native.Mathlib.Omega.{arith}
use borrow.Rule.Slice.PartMut.{put_mid}
use lib.ListN.{length, drop, drop_of_length-le}
use lib.Seq.{sets, sets-eq, length-sets}
use Rattle.cycle.specs.declared.banks.Bank.{Bank}
use Rattle.feed.specs.Size.{quantity_length}
use Rattle.feed.specs.Bytes.{in_two}
use Rattle.feed.proofs.Reports.Written.{put-part, put_next}
use Rattle.calls.specs.Layout.{lesser_at, difference_at, bank_length, in_flag, in_bank}
use borrow.Author.Rules.{rules}
use Rattle.calls.proofs.layout.BankPart.put.Goals as goal

-- two flags written, then two parts behind them, up to the end of d
laid : (d : List ℕ) (u o : ℕ) (y z : List ℕ) (x : Bank) → length d ≡ bank_length → u ≡ in_flag x.unbalanced → o ≡ in_flag x.oxidizer
    → y ≡ in_two x.lesser → z ≡ in_two x.difference
    → put_mid difference_at quantity_length (put_mid lesser_at quantity_length (sets d 0 (u ∷ o ∷ [])) y) z ≡ in_bank x
unfolding in_bank
laid d u o y z x long e f g h =
    let flags = u ∷ o ∷ [] in
    let set : sets d 0 flags ≡ flags ++ drop lesser_at d = sets-eq flags d 0 (omega arith) in
    let first : put_mid lesser_at quantity_length (sets d 0 flags) y ≡ flags ++ y ++ drop difference_at d =
    ap (λ (t : List ℕ). put_mid lesser_at quantity_length t y) set ∙ put_next flags d y lesser_at quantity_length refl in
    let both : length (flags ++ y) ≡ difference_at = rw g refl in
    ap (λ (t : List ℕ). put_mid difference_at quantity_length t z) first
    ∙ put_next (flags ++ y) d z difference_at quantity_length both
    ∙ ap (λ (t : List ℕ). (flags ++ y) ++ z ++ t) (drop_of_length-le d {i = bank_length} (omega arith))
    ∙ append-nil ((flags ++ y) ++ z)
    ∙ rw (e, f, g, h) refl

pub returns : goal.returns
returns c =
    let d = c.args.b.now in
    let x = c.args.self in
    let y = c.put_two.new.s in
    let z = c.put_two-2.new.s in
    let set = sets d 0 (c.from.result ∷ c.from-2.result ∷ []) in
    let s = length-sets d 0 (c.from.result ∷ c.from-2.result ∷ []) in
    laid d c.from.result c.from-2.result y z x c.requires (search rules) (search rules)
    (put-part (in_two x.lesser) set y lesser_at difference_at refl (search rules) c.put_two.ensures)
    (put-part (in_two x.difference) (put_mid lesser_at quantity_length set y) z difference_at bank_length refl (search rules)
    c.put_two-2.ensures)
