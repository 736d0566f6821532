-- The writer's answers by their conditions in arithmetic: each is given exactly under its own. Assumes nothing.
use mathlib.Core.Path.{◌≡◌, refl, sym, ap, subst, ◌∙◌}
use mathlib.Core.Bool.{true, false}
use mathlib.Core.List.{List, ◌++◌}
use mathlib.Core.Logic.{◌⊎◌, inl, inr, ◌↔◌}
use Prim.Native.Nat.{ℕ, ◌<◌, ◌≤◌}
use native.Mathlib.Omega.{arith}
use borrow.Author.Tests.{ltb-true, ltb-false, leb-true, leb-false}
use lib.Dec.{leb}
use lib.ListN.{length, get_or, drop}
use Rattle.std.proofs.Common.{Ok, Err}
use Rattle.bits.proofs.Yes.{and_left, and_right, and_cases}
use Rattle.bits.proofs.Every.{every-at, every-fails}
use Rattle.cycle.specs.Size.{module_count}
use Rattle.cycle.specs.Banks.{no_quantities}
use Rattle.cycle.specs.Records.{Record, minor, major, common}
use Rattle.cycle.specs.declared.values.Quantities.{Quantities}
use Rattle.feed.specs.Size.{reserved_from, most_quantity}
use Rattle.feed.proofs.Records.Lengths.{by-test, below_or}
use Rattle.writer.specs.RecordBytes.{bytes_of, length_by}
use Rattle.writer.specs.Write.{reserved_zero, no_reserved, two_right, module_right, quantities_right}
use Rattle.writer.specs.Write.{all_right, Wrote, write}
use Rattle.writer.specs.Answers.{Writing, number_of}
use Rattle.writer.specs.Refused.{HasReserved, HasAbove, in_fuel, in_oxidizer, AboveIn, needed}
use Rattle.writer.specs.Refused.{AnsweredWhen, Numbered}
use Rattle.writer.specs.declared.answer.Refused.TheVariants.{ReservedBit, QuantityAbove, OutboxShort}
use Rattle.writer.proofs.Lengths.{bytes-length}
use Rattle.writer.proofs.Answering.{reserved-refused, quantity-refused, short-refused, is-written}

-- ---- the tests, and what they say of the values

pub none-reserved : (r : Record) → no_reserved r ≡ true → HasReserved r → ⊥
unfolding reserved_zero
none-reserved r e h = omega (arith, ltb-true (common r).path reserved_from e)

some-reserved : (r : Record) → no_reserved r ≡ false → HasReserved r
unfolding reserved_zero
some-reserved r e = ltb-false (common r).path reserved_from e

module _ (l : List Quantities) where
  both_right : (m : ℕ) → m < module_count → quantities_right l ≡ true → two_right (get_or l m no_quantities) ≡ true
  unfolding quantities_right
  both_right m b e = every-at module_count (module_right l) e m b

  none_above : quantities_right l ≡ true → HasAbove l → ⊥
  unfolding two_right
  none_above e (in_fuel m b h) =
      let q = get_or l m no_quantities in
      let x = leb-true q.fuel most_quantity
      (and_left (leb q.fuel most_quantity) (leb q.oxidizer most_quantity) (both_right m b e)) in
      omega arith
  none_above e (in_oxidizer m b h) =
      let q = get_or l m no_quantities in
      let x = leb-true q.oxidizer most_quantity
      (and_right (leb q.fuel most_quantity) (leb q.oxidizer most_quantity) (both_right m b e)) in
      omega arith

  some-above : quantities_right l ≡ false → HasAbove l
  unfolding quantities_right two_right
  some-above e =
      let x = every-fails module_count (module_right l) e in
      let q = get_or l x.0 no_quantities in
      by x.0 x.1 (and_cases (leb q.fuel most_quantity) (leb q.oxidizer most_quantity) x.2)
    where
      by : (m : ℕ) → m < module_count
          → (leb (get_or l m no_quantities).fuel most_quantity ≡ false) ⊎ (leb (get_or l m no_quantities).oxidizer most_quantity ≡ false)
          → HasAbove l
      by m b (inl f) = in_fuel m b (leb-false (get_or l m no_quantities).fuel most_quantity f)
      by m b (inr o) = in_oxidizer m b (leb-false (get_or l m no_quantities).oxidizer most_quantity o)

pub none-above-in : (r : Record) → all_right r ≡ true → AboveIn r → ⊥
none-above-in (minor r) e x = x
none-above-in (major r) e x = none_above r.quantities e x

some-above-in : (r : Record) → all_right r ≡ false → AboveIn r
some-above-in (minor r) e = cc
some-above-in (major r) e = some-above r.quantities e

-- the lengths that documents 01 and 02 write
pub needs-length : (r : Record) → needed r ≡ length_by r
needs-length (minor r) = refl
needs-length (major r) = refl

-- ---- the answer, its condition, and the outbox

-- what the writer gives back under its answer's condition: the record's bytes and behind them what was there, or the outbox handed in
pub data Gives (r : Record) (out : List ℕ) (x : Wrote) : Type 0 where
  writes : AnsweredWhen (Ok tt) r (length out) → no_reserved r ≡ true → all_right r ≡ true → x.answer ≡ Ok tt
      → x.outbox ≡ bytes_of r ++ drop (length_by r) out → Gives r out x
  refuses : (a : Writing) → AnsweredWhen a r (length out) → (a ≡ Ok tt → ⊥) → x.answer ≡ a → x.outbox ≡ out → Gives r out x

module _ (r : Record) (out : List ℕ) where
  pub gives : Gives r out (write r out)
  gives =
      by-test (no_reserved r)
      (λ zero.
      by-test (all_right r) (λ right. room zero right (below_or (length out) (length_by r)))
      (λ e.
      let q = quantity-refused r out zero e in
      refuses (Err QuantityAbove) (none-reserved r zero, some-above-in r e) (λ d. cc)
      (sym (ap (λ (x : Wrote). x.answer) q)) (sym (ap (λ (x : Wrote). x.outbox) q))))
      (λ e.
      let q = reserved-refused r out e in
      refuses (Err ReservedBit) (some-reserved r e) (λ d. cc)
      (sym (ap (λ (x : Wrote). x.answer) q)) (sym (ap (λ (x : Wrote). x.outbox) q)))
    where
      room : no_reserved r ≡ true → all_right r ≡ true → (length out < length_by r) ⊎ (length_by r ≤ length out)
          → Gives r out (write r out)
      room zero right (inl l) =
          let q = short-refused r out zero right l in
          let n = needs-length r in
          refuses (Err OutboxShort) (none-reserved r zero, none-above-in r right, omega arith)
          (λ d. cc)
          (sym (ap (λ (x : Wrote). x.answer) q)) (sym (ap (λ (x : Wrote). x.outbox) q))
      room zero right (inr l) =
          let q = is-written r out zero right (bytes_of r) l refl in
          let n = needs-length r in
          writes (none-reserved r zero, none-above-in r right, omega arith) zero right
          (sym (ap (λ (x : Wrote). x.answer) q)) (sym (ap (λ (x : Wrote). x.outbox) q))

-- no two answers have one number
number-tells : (a b : Writing) → number_of a ≡ number_of b → a ≡ b
number-tells (Ok done) (Ok also) e = refl
number-tells (Ok done) (Err ReservedBit) e = absurd (omega arith)
number-tells (Ok done) (Err QuantityAbove) e = absurd (omega arith)
number-tells (Ok done) (Err OutboxShort) e = absurd (omega arith)
number-tells (Err ReservedBit) (Ok done) e = absurd (omega arith)
number-tells (Err ReservedBit) (Err ReservedBit) e = refl
number-tells (Err ReservedBit) (Err QuantityAbove) e = absurd (omega arith)
number-tells (Err ReservedBit) (Err OutboxShort) e = absurd (omega arith)
number-tells (Err QuantityAbove) (Ok done) e = absurd (omega arith)
number-tells (Err QuantityAbove) (Err ReservedBit) e = absurd (omega arith)
number-tells (Err QuantityAbove) (Err QuantityAbove) e = refl
number-tells (Err QuantityAbove) (Err OutboxShort) e = absurd (omega arith)
number-tells (Err OutboxShort) (Ok done) e = absurd (omega arith)
number-tells (Err OutboxShort) (Err ReservedBit) e = absurd (omega arith)
number-tells (Err OutboxShort) (Err QuantityAbove) e = absurd (omega arith)
number-tells (Err OutboxShort) (Err OutboxShort) e = refl

-- no two conditions hold of the same values and outbox
one-condition : (r : Record) (n : ℕ) (a b : Writing) → AnsweredWhen a r n → AnsweredWhen b r n → a ≡ b
one-condition r n (Ok done) (Ok also) x y = refl
one-condition r n (Ok done) (Err ReservedBit) x y = absurd (x.0 y)
one-condition r n (Ok done) (Err QuantityAbove) x y = absurd (x.1 y.1)
one-condition r n (Ok done) (Err OutboxShort) x y = absurd (omega (arith, x.2, y.2))
one-condition r n (Err ReservedBit) (Ok done) x y = absurd (y.0 x)
one-condition r n (Err ReservedBit) (Err ReservedBit) x y = refl
one-condition r n (Err ReservedBit) (Err QuantityAbove) x y = absurd (y.0 x)
one-condition r n (Err ReservedBit) (Err OutboxShort) x y = absurd (y.0 x)
one-condition r n (Err QuantityAbove) (Ok done) x y = absurd (y.1 x.1)
one-condition r n (Err QuantityAbove) (Err ReservedBit) x y = absurd (x.0 y)
one-condition r n (Err QuantityAbove) (Err QuantityAbove) x y = refl
one-condition r n (Err QuantityAbove) (Err OutboxShort) x y = absurd (y.1 x.1)
one-condition r n (Err OutboxShort) (Ok done) x y = absurd (omega (arith, x.2, y.2))
one-condition r n (Err OutboxShort) (Err ReservedBit) x y = absurd (x.0 y)
one-condition r n (Err OutboxShort) (Err QuantityAbove) x y = absurd (x.1 y.1)
one-condition r n (Err OutboxShort) (Err OutboxShort) x y = refl

module _ (r : Record) (out : List ℕ) where
  held : (x : Wrote) → Gives r out x → AnsweredWhen x.answer r (length out)
  held x (writes c zero right e o) = subst (λ a. AnsweredWhen a r (length out)) (sym e) c
  held x (refuses a c f e o) = subst (λ a. AnsweredWhen a r (length out)) (sym e) c

  pub writes-exactly : (a : Writing) → ((write r out).answer ≡ a) ↔ AnsweredWhen a r (length out)
  writes-exactly a = (
    λ e. subst (λ b. AnsweredWhen b r (length out)) e (held (write r out) (gives r out)),
    λ c. one-condition r (length out) (write r out).answer a (held (write r out) (gives r out)) c,
  )

  pub refused-as-it-was : ((write r out).answer ≡ Ok tt → ⊥) → (write r out).outbox ≡ out
  refused-as-it-was f = by (write r out) f (gives r out)
    where
      by : (x : Wrote) → (x.answer ≡ Ok tt → ⊥) → Gives r out x → x.outbox ≡ out
      by x g (writes c zero right e o) = absurd (g e)
      by x g (refuses a c h e o) = o

  -- the number tells the answer
  pub writer-numbers : Numbered (number_of (write r out).answer) r (length out)
  writer-numbers =
      let tells : (a : Writing) → (number_of (write r out).answer ≡ number_of a) ↔ AnsweredWhen a r (length out) =
      λ a. (
        λ e. (writes-exactly a).0 (number-tells (write r out).answer a e),
        λ c. ap number_of ((writes-exactly a).1 c),
      ) in
      record {
        written = tells (Ok tt);
        reserved = tells (Err ReservedBit);
        above = tells (Err QuantityAbove);
        short = tells (Err OutboxShort);
      }

  pub written_behind : (write r out).answer ≡ Ok tt → (write r out).outbox ≡ bytes_of r ++ drop (needed r) out
  written_behind t = by (write r out) t (gives r out)
    where
      by : (x : Wrote) → x.answer ≡ Ok tt → Gives r out x → x.outbox ≡ bytes_of r ++ drop (needed r) out
      by x t (writes c zero right e o) = o ∙ ap (λ (n : ℕ). bytes_of r ++ drop n out) (sym (needs-length r))
      by x t (refuses a c h e o) = absurd (h (sym e ∙ t))

  -- the tests that a written record has passed
  pub written-tests : (write r out).answer ≡ Ok tt → (no_reserved r ≡ true) × (all_right r ≡ true)
  written-tests t = by (write r out) t (gives r out)
    where
      by : (x : Wrote) → x.answer ≡ Ok tt → Gives r out x → (no_reserved r ≡ true) × (all_right r ≡ true)
      by x t (writes c zero right e o) = (zero, right)
      by x t (refuses a c h e o) = absurd (h (sym e ∙ t))

  pub written-bytes : (write r out).answer ≡ Ok tt
      → ((write r out).outbox ≡ bytes_of r ++ drop (needed r) out) × (length (bytes_of r) ≡ needed r)
  written-bytes t = (written_behind t, bytes-length r ∙ sym (needs-length r))
