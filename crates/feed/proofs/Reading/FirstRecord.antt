-- The record that stands first among bytes: its length, that it is whole, and that a whole record which stands there is it.
-- Assumes nothing.
use Rattle.std.proofs.Common.{◌≡◌, ℕ, ◌+◌, ◌-◌, ◌<◌, ◌≤◌, true, false, ◌⊎◌, List, [], ◌++◌, length, get_or, take, drop, sym, ap, ◌∙◌, subst, inl, inr, arith, length-take-le, get_or-drop, get_or-take, take_at, drop_at}
use lib.ListN.{get_or-eq_default}
use Rattle.feed.specs.Size.{least_length}
use Rattle.feed.specs.Format.{look, settles, length_shown}
use Rattle.feed.specs.Good.{WholeRecord}
use Rattle.feed.specs.Reader.{settle}
use Rattle.feed.specs.Settled.{has_record, record_length, record_in, behind_in}
use Rattle.feed.specs.Step.{is_whole}
use Rattle.feed.specs.declared.format.Kind.{Kind}
use Rattle.feed.specs.declared.format.Look.TheVariants.{Settles}
use Rattle.feed.proofs.Records.Lengths.{by-test, below_or, shown-long, none-shown}
use Rattle.feed.proofs.Records.Whole.{shown-sized}
use Rattle.feed.proofs.Records.Goods.{whole-settles}
use Rattle.feed.proofs.Reading.Settling.{settled-append, settle-settled}
use Rattle.feed.proofs.Reading.Fronts.{settle-end}
use Rattle.feed.proofs.Calls.Steps.{front-whole, whole-record}

pub record-none : (l : List ℕ) → has_record l ≡ false → record_in l ≡ []
record-none l e = ap (λ (n : ℕ). take n (settle l)) (none-shown (look (settle l)) e)

pub record-long : (l : List ℕ) → has_record l ≡ true → length (record_in l) ≡ record_length l
record-long l t = length-take-le (record_length l) (settle l) (shown-sized (settle l) t)

pub record-some : (l : List ℕ) → has_record l ≡ true → least_length ≤ length (record_in l)
record-some l t = rw (record-long l t) (shown-long (look (settle l)) t)

-- it is whole
pub record-is-whole : (l : List ℕ) → has_record l ≡ true → is_whole (record_in l) ≡ true
record-is-whole l t = front-whole (settle l) t

pub record-whole : (l : List ℕ) → has_record l ≡ true → WholeRecord (record_in l)
record-whole l t = whole-record (record_in l) (record-is-whole l t)

pub record-or : (l : List ℕ) → (record_in l ≡ []) ⊎ WholeRecord (record_in l)
record-or l = by-test (has_record l) (λ t. inr (record-whole l t)) (λ t. inl (record-none l t))

-- ---- a whole record r with q behind it

pub record StandsFirst (r q : List ℕ) : Type 0 where
  pub there : has_record (r ++ q) ≡ true
  pub first : record_in (r ++ q) ≡ r
  pub behind : behind_in (r ++ q) ≡ q

pub stands-first : (r q : List ℕ) → WholeRecord r → StandsFirst r q
stands-first r q whole =
    let x = whole-settles r whole in
    let k : Kind = x.0 in
    let there : look (r ++ q) ≡ Settles k = settled-append r q k x.1.1 in
    let all : settle (r ++ q) ≡ r ++ q = settle-settled (r ++ q) k there in
    let shown : look (settle (r ++ q)) ≡ Settles k = ap look all ∙ there in
    let n : length r ≡ record_length (r ++ q) = x.1.0 ∙ ap length_shown (sym shown) in
    record {
      there = ap settles shown;
      first = ap (take (record_length (r ++ q))) all ∙ take_at r q (record_length (r ++ q)) n;
      behind = ap (drop (record_length (r ++ q))) all ∙ drop_at r q (record_length (r ++ q)) n;
    }

-- ---- among bytes it is bytes

module _ (l : List ℕ) (bytes : (i : ℕ) → get_or l i 0 < 256) where
  dropped-bytes : (n i : ℕ) → get_or (drop n l) i 0 < 256
  dropped-bytes n i = subst (λ (b : ℕ). b < 256) (sym (get_or-drop n l i 0)) (bytes (n + i))

  settled-bytes : (i : ℕ) → get_or (settle l) i 0 < 256
  settled-bytes i =
      subst (λ (k : List ℕ). get_or k i 0 < 256) (settle-end l) (dropped-bytes (length l - length (settle l)) i)

  pub record-bytes : (i : ℕ) → get_or (record_in l) i 0 < 256
  record-bytes i = by (below_or i (length (record_in l)))
    where
      by : (i < length (record_in l)) ⊎ (length (record_in l) ≤ i) → get_or (record_in l) i 0 < 256
      by (inl h) =
          by-test (has_record l)
          (λ t.
          let e = record-long l t in
          subst (λ (b : ℕ). b < 256) (sym (get_or-take (record_length l) (settle l) i 0 (omega arith))) (settled-bytes i))
          (λ t. let e = ap length (record-none l t) in absurd (omega arith))
      by (inr h) = subst (λ (b : ℕ). b < 256) (sym (get_or-eq_default (record_in l) 0 h)) (omega arith)
