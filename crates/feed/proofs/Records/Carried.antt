-- The records heard, by their bytes, and the values that the rules step by: what they say of a jet and of a module is the same.
-- Assumes nothing.
use Rattle.std.proofs.Common.{◌≡◌, ℕ, ◌+◌, ◌*◌, ◌<◌, cond, eqb, List, [], ◌∷◌, get_or, refl, ap, ◌∙◌, ap₂, arith}
use Rattle.cycle.specs.Size.{string_count, jet_count, module_count}
use Rattle.cycle.specs.Jets.{JetRecord}
use Rattle.cycle.specs.Banks.{weighed}
use Rattle.cycle.specs.Inside.Runs.{TakenRecord, bank_by, bank_after}
use Rattle.cycle.specs.Inside.Runs as runs
use Rattle.cycle.specs.declared.banks.Bank.{Bank}
use Rattle.feed.specs.Bytes.{two}
use Rattle.feed.specs.Size.{major_mark, quantity_length, quantities_from, quantities_length}
use Rattle.feed.specs.Values.{major_of, values_of}
use Rattle.feed.specs.Heard.{Heard, reached_by, jet_history, bank_heard}
use Rattle.feed.proofs.Records.Lengths.{by-test}
use Rattle.feed.proofs.Records.HeardValues.{quantities_in, quantities-at, record-heard}

-- each record heard carries these values
pub data Carry : List Heard → List TakenRecord → Type 0 where
  none : Carry [] []
  behind : {ts : List Heard} {vs : List TakenRecord} (n : ℕ) (r : List ℕ) → Carry ts vs
      → Carry (record { n = n; bytes = r } ∷ ts) (record { n = n; values = values_of r } ∷ vs)

pub reached-carried : {ts : List Heard} {vs : List TakenRecord} → Carry ts vs → runs.reached_by vs ≡ reached_by ts
reached-carried none = refl
reached-carried (behind n r c) = refl

pub history-carried : {ts : List Heard} {vs : List TakenRecord} (s i j : ℕ) → s < string_count → j < jet_count → Carry ts vs
    → runs.jet_history s i j vs ≡ jet_history s i j ts
history-carried s i j l b none = refl
history-carried s i j l b (behind n r c) =
    ap₂ (λ (t : JetRecord) (h : List JetRecord). t ∷ h) (record-heard n r s i j l b) (history-carried s i j l b c)

-- the banks of one record more
bank-next : (m : ℕ) → m < module_count → (r : List ℕ) (b : Bank)
    → bank_by m (values_of r) b
    ≡ cond (eqb (get_or r 1 0) major_mark)
    (weighed (record { fuel = two r (quantities_in m); oxidizer = two r (quantities_from + quantity_length + quantities_length * m) })) b
unfolding values_of major_of
bank-next m l r b = by-test (eqb (get_or r 1 0) major_mark)
    (λ t.
    let place : quantities_in m + quantity_length ≡ quantities_from + quantity_length + quantities_length * m = omega arith in
    rw t (ap weighed (quantities-at r m l ∙ (λ i. record { fuel = two r (quantities_in m); oxidizer = two r (place i) }))))
    (λ t. rw t refl)

pub bank-carried : {ts : List Heard} {vs : List TakenRecord} (m : ℕ) → m < module_count → Carry ts vs → bank_after m vs ≡ bank_heard m ts
bank-carried m l none = refl
bank-carried m l (behind {ts} n r c) = ap (bank_by m (values_of r)) (bank-carried m l c) ∙ bank-next m l r (bank_heard m ts)
