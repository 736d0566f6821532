-- The answer by the tests, and what the outbox then is. Assumes nothing.
use mathlib.Core.Path.{◌≡◌, refl, ap, ◌∙◌}
use mathlib.Core.Bool.{Bool, true, false}
use mathlib.Core.List.{List, ◌++◌}
use mathlib.Core.Logic.{◌⊎◌, inl, inr}
use Prim.Native.Nat.{ℕ, ◌<◌, ◌≤◌}
use borrow.Author.Tests.{lt-leb, le-leb, leb-true}
use lib.Dec.{leb}
use lib.ListN.{length, drop}
use Rattle.std.proofs.Common.{Ok, Err}
use Rattle.cycle.specs.Records.{Record}
use Rattle.writer.specs.RecordBytes.{bytes_of, length_by}
use Rattle.writer.specs.Write.{no_reserved, all_right, checked, answer_to, outbox_by, wrote, write}
use Rattle.writer.specs.Answers.{Writing}
use Rattle.writer.specs.declared.answer.Refused.{Refused}
use Rattle.writer.specs.declared.answer.Refused.TheVariants.{ReservedBit, QuantityAbove, OutboxShort}

-- ---- written or not

pub is-written-or : (a : Writing) → (a ≡ Ok tt) ⊎ (a ≡ Ok tt → ⊥)
is-written-or (Ok done) = inl refl
is-written-or (Err why) = inr (λ e. cc)

left_alone : (why : Refused) (r : Record) (out : List ℕ) → out ≡ outbox_by (Err why) r out
left_alone ReservedBit r out = refl
left_alone QuantityAbove r out = refl
left_alone OutboxShort r out = refl

-- ---- by what the tests say

-- there is room for what is written
pub has-room : (zero right : Bool) (n m : ℕ) → Ok tt ≡ checked zero right (leb n m) → n ≤ m
unfolding checked
has-room zero right n m e = leb-true n m (by zero right (leb n m) e)
  where
    by : (zero right fits : Bool) → Ok tt ≡ checked zero right fits → fits ≡ true
    by true true true e = refl
    by true true false e = cc
    by true false fits e = cc
    by false true fits e = cc
    by false false fits e = cc

module _ (r : Record) (out : List ℕ) where
  pub answered : (a : Writing) (box : List ℕ) → a ≡ answer_to r (length out) → box ≡ outbox_by a r out → wrote a box ≡ write r out
  unfolding write
  answered a box e f = ap (wrote a) f ∙ ap (λ (b : Writing). wrote b (outbox_by b r out)) e

  pub refused : (why : Refused) → Err why ≡ answer_to r (length out) → wrote (Err why) out ≡ write r out
  refused why e = answered (Err why) out e (left_alone why r out)

  -- ---- case by case

  pub reserved-refused : no_reserved r ≡ false → wrote (Err ReservedBit) out ≡ write r out
  unfolding checked
  reserved-refused e = refused ReservedBit (rw e refl)

  module _ (zero : no_reserved r ≡ true) where
    pub quantity-refused : all_right r ≡ false → wrote (Err QuantityAbove) out ≡ write r out
    unfolding checked
    quantity-refused e = refused QuantityAbove (rw (zero, e) refl)

    module _ (right : all_right r ≡ true) where
      pub short-refused : length out < length_by r → wrote (Err OutboxShort) out ≡ write r out
      unfolding checked
      short-refused l = refused OutboxShort (rw (zero, right, lt-leb (length_by r) (length out) l) refl)

      pub is-written : (y : List ℕ) → length_by r ≤ length out → y ≡ bytes_of r → wrote (Ok tt) (y ++ drop (length_by r) out) ≡ write r out
      unfolding checked
      is-written y l e =
          answered (Ok tt) (y ++ drop (length_by r) out) (rw (zero, right, le-leb (length_by r) (length out) l) refl)
          (ap (λ (t : List ℕ). t ++ drop (length_by r) out) e)
