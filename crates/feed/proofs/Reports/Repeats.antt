-- The first k bytes of twice as many, written again into the second half, one after the other; and what is then written there. Assumes
-- nothing.
use Rattle.std.proofs.Common.{◌≡◌, ℕ, suc, ◌+◌, ◌<◌, List, [], ◌∷◌, ◌++◌, length, get_or, take, drop, set, sym, ap, ◌∙◌, ap₂, append_assoc, append-nil, add-zero, add-one, arith, length-append, take-append-drop, drop_of_length-le, length-take-le, drop-cons, get_or-take, take-suc, take-take, drop-drop}
use borrow.Rule.Slice.PartMut.{put_mid}
use lib.ListN.{get_or-append}
use lib.Seq.{set_at, take-append-add, drop-append-add}
use Rattle.feed.specs.Size.{count_at, count_length, strings_from, report_length}
use Rattle.feed.specs.Bytes.{in_four}
use Rattle.feed.specs.Inside.Calm.{renumbered, told_behind}

module _ (l : List ℕ) (k : ℕ) (long : length l ≡ k + k) where
  front_long : length (take k l) ≡ k
  front_long = length-take-le k l (omega arith)

  -- so far i bytes
  abbrev pub again : ℕ → List ℕ
  again i = take k l ++ (take i l ++ drop (k + i) l)

  pub again-none : l ≡ again 0
  again-none = sym (ap (λ (n : ℕ). take k l ++ drop n l) (add-zero k) ∙ take-append-drop k l)

  module _ (i : ℕ) (more : i < k) where
    read : get_or (again i) i 0 ≡ get_or l i 0
    read = get_or-append (take k l) (take i l ++ drop (k + i) l) 0 i (omega (arith, front_long)) ∙ get_or-take k l i 0 more

    before-long : length (take k l ++ take i l) ≡ k + i
    before-long = length-append (take k l) (take i l) ∙ omega (arith, front_long, length-take-le i l (omega arith))

    pub again-next : set (again i) (k + i) (get_or (again i) i 0) ≡ again (i + 1)
    again-next =
        let y : ℕ = get_or l (k + i) 0 in
        let rest : List ℕ = drop (suc (k + i)) l in
        let split : again i ≡ (take k l ++ take i l) ++ (y ∷ rest) =
        ap (λ (t : List ℕ). take k l ++ (take i l ++ t)) (drop-cons l (k + i) 0 (omega arith))
        ∙ sym (append_assoc (take k l) (take i l) (y ∷ rest)) in
        let place : suc (k + i) ≡ k + (i + 1) = omega arith in
        let one : take (i + 1) l ≡ take i l ++ (get_or l i 0 ∷ []) = rw add-one (take-suc l i 0 (omega arith)) in
        ap (λ (x : ℕ). set (again i) (k + i) x) read
        ∙ ap (λ (t : List ℕ). set t (k + i) (get_or l i 0)) split
        ∙ set_at (take k l ++ take i l) y rest (get_or l i 0) (k + i) before-long
        ∙ append_assoc (take k l) (take i l) (get_or l i 0 ∷ rest)
        ∙ ap (λ (t : List ℕ). take k l ++ t)
        (sym (append_assoc (take i l) (get_or l i 0 ∷ []) rest)
        ∙ ap (λ (t : List ℕ). t ++ rest) (sym one)
        ∙ ap (λ (n : ℕ). take (i + 1) l ++ drop n l) place)

  pub again-all : again k ≡ take k l ++ take k l
  again-all = ap (λ (t : List ℕ). take k l ++ (take k l ++ t)) (drop_of_length-le l {i = k + k} (omega arith)) ∙ rw append-nil

-- a report r written twice, the second with another number
module _ (r y : List ℕ) (n : ℕ) (long : length r ≡ report_length) (e : y ≡ in_four n) where
  past : (i : ℕ) → drop (report_length + i) (r ++ r) ≡ drop i r
  past i = ap (λ (k : ℕ). drop (k + i) (r ++ r)) (sym long) ∙ drop-append-add r r i

  pub put-number : put_mid (report_length + count_at) count_length (r ++ r) y ≡ r ++ renumbered n r
  unfolding renumbered
  put-number =
      let before : take (report_length + count_at) (r ++ r) ≡ r ++ take count_at r =
      ap (λ (k : ℕ). take (k + count_at) (r ++ r)) (sym long) ∙ take-append-add r r count_at in
      let behind : drop count_length (drop (report_length + count_at) (r ++ r)) ≡ drop strings_from r =
      drop-drop count_length (report_length + count_at) (r ++ r) ∙ past strings_from in
      ap₂ (λ (a b : List ℕ). a ++ (y ++ b)) before behind
      ∙ ap (λ (t : List ℕ). (r ++ take count_at r) ++ (t ++ drop strings_from r)) e
      ∙ append_assoc r (take count_at r) (in_four n ++ drop strings_from r)

-- ---- two reports lent of an outbox: the second is made of the first

pub told-behind : (change : List ℕ → List ℕ) (out y : List ℕ)
    → y ≡ take report_length (take (report_length + report_length) out) ++ change (take report_length (take (report_length + report_length) out))
    → y ++ drop (report_length + report_length) out ≡ told_behind change out
told-behind change out y e =
    let both = report_length + report_length in
    let front : take report_length (take both out) ≡ take report_length out = take-take report_length both out (omega arith) in
    ap (λ (l : List ℕ). l ++ drop both out) (e ∙ ap (λ (r : List ℕ). r ++ change r) front)
    ∙ append_assoc (take report_length out) (change (take report_length out)) (drop both out)
