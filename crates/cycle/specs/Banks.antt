-- The banks (2.2.8): "Once per major cycle, for each module, whatever the path bits"; and how far they are apart (02, order 10).
-- Assumes nothing.
use Rattle.std.specs.Prelude.{◌≡◌, ℕ, ◌+◌, ◌-◌, ◌%◌, ◌<◌, ◌≤◌, min, Bool, true, false, cond, ◌⊎◌, ◌↔◌, List, ℤ, pos, ◌-ℤ◌, ◌<ℤ◌, nat_lt, slice_index_or, unsigned_abs}
use Rattle.std.specs.Int.{w16}
use Rattle.std.proofs.Common.{of_z}
use Rattle.cycle.specs.Size.{most_apart}
use Rattle.cycle.specs.Each.{each}
use Rattle.cycle.specs.Leak.{signed}
use Rattle.cycle.specs.declared.banks.Bank.{Bank}
use Rattle.cycle.specs.declared.values.Quantities.{Quantities}

-- "all 0 when fresh"; 02, order 10, of the differences: "At fresh they are 0."
abbrev pub no_bank : Bank
no_bank = record { unbalanced = false; oxidizer = false; lesser = 0; difference = 0 }

-- what stands past the end of an array of quantities
abbrev pub no_quantities : Quantities
no_quantities = record { fuel = 0; oxidizer = 0 }

-- 02, order 10: "The balance rule now also gives fuel less oxidizer as a signed number, -1,000 to 1,000; .. in two's complement": the kit's
-- own way to write a signed number in 16 bits, which `Leak.signed` reads. Of words above 1,000, which no feed brings as quantities, it is
-- fuel less oxidizer modulo 65,536.
unfoldable pub fuel_less_oxidizer : Quantities → ℕ
fuel_less_oxidizer q = of_z w16 (pos q.fuel -ℤ pos q.oxidizer)

-- of the greater and the lesser: "out of balance if the two quantities differ by more than 16 tenths"
abbrev pub compared : ℕ → Bool → ℕ → ℕ → Bank
compared difference oxidizer greater lesser =
    record { unbalanced = nat_lt most_apart (greater - lesser); oxidizer = oxidizer; lesser = lesser; difference = difference }

-- "the lesser is the oxidizer only if it is strictly less"
unfoldable pub weighed : Quantities → Bank
weighed q =
    cond (nat_lt q.oxidizer q.fuel) (compared (fuel_less_oxidizer q) true q.fuel q.oxidizer)
    (compared (fuel_less_oxidizer q) false q.oxidizer q.fuel)

-- each of the lowest n modules
unfoldable pub weighed_all : ℕ → List Quantities → List Bank → List Bank
weighed_all n q banks = each n (λ m b. weighed (slice_index_or q m no_quantities)) no_bank banks

-- the same by arithmetic: what the banks of a module are, for these quantities
pub record Weighed (fuel oxidizer : ℕ) (b : Bank) : Type 0 where
  pub apart : (b.unbalanced ≡ true) ↔ ((fuel + 16 < oxidizer) ⊎ (oxidizer + 16 < fuel))
  pub strictly : (b.oxidizer ≡ true) ↔ (oxidizer < fuel)
  pub smaller : b.lesser ≡ min fuel oxidizer
  -- 02, order 10: of quantities of at most 1,000 "fuel less oxidizer as a signed number"
  pub signedly : fuel ≤ 1000 → oxidizer ≤ 1000 → signed b.difference ≡ pos fuel -ℤ pos oxidizer
  -- of any words: the word to which the oxidizer is added to give the fuel, modulo 65,536
  pub modulo : fuel ≤ 65535 → oxidizer ≤ 65535 → (b.difference ≤ 65535) × ((b.difference + oxidizer) % 65536 ≡ fuel)

-- 02, order 10: "how far the banks are apart". What the difference of quantities of at most 1,000 says of the two flags: it lies from
-- -1,000 to 1,000; out of balance exactly if its size is above 16; the oxidizer is the lesser exactly if it is positive.
pub record ToldByDifference (unbalanced oxidizer : Bool) (difference : ℤ) : Type 0 where
  pub within : unsigned_abs difference ≤ 1000
  pub apart : (unbalanced ≡ true) ↔ (16 < unsigned_abs difference)
  pub strictly : (oxidizer ≡ true) ↔ (pos 0 <ℤ difference)
