-- The writer's theorems are not empty: the first record of the nights is written, byte for byte, and so is a major record with every
-- quantity at its limit; sent one behind the other they meet the premises. And each refusal is met. Assumes nothing.
use mathlib.Core.Path.{◌≡◌, refl, ap}
use mathlib.Core.List.{List, [], ◌∷◌, ◌++◌}
use Prim.Native.Nat.{ℕ, zero, suc, ◌<◌}
use native.Mathlib.Omega.{arith}
use lib.ListN.{get_or, replicate, get_or-replicate}
use Rattle.std.proofs.Common.{Ok, Err}
use Rattle.bits.specs.Bit.{every}
use Rattle.cycle.specs.Records.{Record, minor, major}
use Rattle.cycle.specs.Banks.{no_quantities}
use Rattle.cycle.specs.Hall.{no_sample, no_temperatures, no_requests}
use Rattle.cycle.specs.declared.values.Quantities.{Quantities}
use Rattle.feed.specs.Bytes.{parts}
use Rattle.feed.specs.Format.{total, sum_of}
use Rattle.writer.specs.Answers.{Writing}
use Rattle.writer.specs.RecordBytes.{head_bytes, sample_bytes, samples_bytes, common_bytes, before_sum, summed, bytes_of}
use Rattle.writer.specs.Write.{reserved_zero, two_right, quantities_right, checked, wrote, write}
use Rattle.writer.specs.Fit.{FitSample, FitMinor, FitTemperatures, FitRequests, FitQuantities, FitRecord}
use Rattle.writer.specs.Sent.{AllWritten, none, more}
use Rattle.writer.specs.declared.answer.Refused.TheVariants.{ReservedBit, QuantityAbove, OutboxShort}
use Rattle.promises.specs.NightRecords.{quiet_sample, quiet_temperatures, minor_with, major_with, keeping, dropping_with}
use Rattle.promises.specs.Nights.{four_times}

-- ---- the first record of the nights, into an outbox of 61 bytes 07

abbrev first_values : Record
first_values = minor (minor_with 1 quiet_sample)

pub first-written : write first_values (replicate 61 7)
    ≡ wrote (Ok tt)
    ((0x52 ∷ 0x4D ∷ 0x00 ∷ 0x01 ∷ 0x00 ∷ four_times (replicate 12 0x00 ++ (0xFF ∷ [])) ++ (0x04 ∷ 0x9C ∷ [])) ++ (7 ∷ 7 ∷ []))
unfolding write checked reserved_zero every bytes_of summed before_sum common_bytes head_bytes samples_bytes sample_bytes parts sum_of total
first-written = refl

-- ---- a major record whose quantities are all 1,000

abbrev full : List Quantities
full = replicate 3 (keeping 1000 1000)

abbrev full_values : Record
full_values = major (major_with 25 quiet_sample quiet_temperatures full)

abbrev answer-of : Record → ℕ → Writing
answer-of r room = (write r (replicate room 0)).answer

pub full-written : answer-of full_values 619 ≡ Ok tt
unfolding write checked reserved_zero every quantities_right two_right
full-written = refl

-- ---- each refusal, and their order

pub short-refused : answer-of full_values 618 ≡ Err OutboxShort
unfolding write checked reserved_zero every quantities_right two_right
short-refused = refl

pub quantity-refused : answer-of (major (major_with 25 quiet_sample quiet_temperatures (keeping 1000 1001 ∷ []))) 618 ≡ Err QuantityAbove
unfolding write checked reserved_zero every quantities_right two_right
quantity-refused = refl

-- bit 4 of the path byte
abbrev reserved_values : Record
reserved_values = major (record {
  minor = record { wire = 25; path = 0x10; samples = replicate 4 quiet_sample };
  temperatures = replicate 4 quiet_temperatures;
  requests = replicate 4 no_requests;
  quantities = keeping 1000 1001 ∷ [];
})

pub reserved-refused : answer-of reserved_values 618 ≡ Err ReservedBit
unfolding write checked reserved_zero every quantities_right two_right
reserved-refused = refl

-- 02, order 7: "the reserved-bit rules for valve and drop go": valve bytes FF, as a quiet sample has them, and a drop byte FF are written
pub drops-written : answer-of (major (dropping_with 25 0xFF full)) 619 ≡ Ok tt
unfolding write checked reserved_zero every quantities_right two_right
drops-written = refl

-- ---- both sent: the premises of `sent-feed`

-- one of four, and one of three
below-four : (P : ℕ → Type 0) → P 0 → P 1 → P 2 → P 3 → (s : ℕ) → s < 4 → P s
below-four P a b c d zero l = a
below-four P a b c d (suc zero) l = b
below-four P a b c d (suc (suc zero)) l = c
below-four P a b c d (suc (suc (suc zero))) l = d
below-four P a b c d (suc (suc (suc (suc s)))) l = absurd (omega arith)

quiet-fits : FitSample quiet_sample
quiet-fits = record { commanded = omega arith; pressure = omega arith; driver = omega arith; valves = omega arith }

night-fits : (wire : ℕ) → wire < 65536 → FitMinor (minor_with wire quiet_sample)
night-fits wire l = record {
  wire = l;
  path = omega arith;
  strings = refl;
  sample =
      below-four (λ s. FitSample (get_or (quiet_sample ∷ quiet_sample ∷ quiet_sample ∷ quiet_sample ∷ []) s no_sample)) quiet-fits quiet-fits
      quiet-fits quiet-fits;
}

heat-fits : FitTemperatures quiet_temperatures
heat-fits = record { many = refl; word = λ k l. rw (get_or-replicate {A = ℕ} 64 k 64 0 l) (omega arith) }

full-fits : FitRecord full_values
full-fits =
    let q : FitQuantities (keeping 1000 1000) = record { fuel = omega arith; oxidizer = omega arith } in
    let a : FitRequests no_requests = record { inhibit = omega arith; reenable = omega arith; drop = omega arith } in
    record {
      minor = night-fits 25 (omega arith);
      heated = refl;
      temperatures =
          below-four (λ s. FitTemperatures (get_or (replicate 4 quiet_temperatures) s no_temperatures)) heat-fits heat-fits heat-fits heat-fits;
      asked = refl;
      requests = below-four (λ s. FitRequests (get_or (replicate 4 no_requests) s no_requests)) a a a a;
      modules = refl;
      quantities = λ m l.
          below-four (λ s. s < 3 → FitQuantities (get_or full s no_quantities)) (λ b. q) (λ b. q) (λ b. q) (λ b. absurd (omega arith)) m
          (omega arith) l;
    }

pub both-sent : AllWritten (first_values ∷ full_values ∷ [])
both-sent =
    more (replicate 61 7) (night-fits 1 (omega arith)) (ap (λ x. x.answer) first-written)
    (more (replicate 619 0) full-fits full-written none)
