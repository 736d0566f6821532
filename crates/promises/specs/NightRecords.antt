-- 01, "Nights to try": the map, and the records of the nights. "Unless said, valves are open, temperature words 64, records of the right
-- kind"; also nothing is commanded, no pressure or driver is on, no path has failed, nothing is requested and the quantities are 0.
-- Assumes nothing.
use Rattle.std.specs.Prelude.{cond, List, [], ◌∷◌, ℕ, replicate}
use Rattle.cycle.specs.Size.{string_count, module_count}
use Rattle.cycle.specs.Map.{no_masks}
use Rattle.cycle.specs.Numbers.{is_major}
use Rattle.cycle.specs.Banks.{no_quantities}
use Rattle.cycle.specs.Hall.{no_requests}
use Rattle.cycle.specs.Records.{Record, minor, major}
use Rattle.cycle.specs.declared.map.Masks.{Masks}
use Rattle.cycle.specs.declared.values.Sample.{Sample}
use Rattle.cycle.specs.declared.values.Minor.{Minor}
use Rattle.cycle.specs.declared.values.Temperatures.{Temperatures}
use Rattle.cycle.specs.declared.values.Quantities.{Quantities}
use Rattle.cycle.specs.declared.values.Major.{Major}
use Rattle.feed.specs.Size.{temperature_count}

-- "Map: string 0, manifold 0 = 0000000F, others zero."
abbrev pub night_map : List Masks
night_map = record { words = 0x0000000F ∷ replicate 7 0 } ∷ no_masks ∷ no_masks ∷ no_masks ∷ []

-- of a string: the jets commanded, without pressure, the drivers that are on, the valves that are open
abbrev pub sample_with : ℕ → ℕ → ℕ → Sample
sample_with commanded driver valves = record { commanded = commanded; pressure = 0; driver = driver; valves = valves }

abbrev pub quiet_sample : Sample
quiet_sample = sample_with 0 0 0xFF

abbrev pub quiet_temperatures : Temperatures
quiet_temperatures = record { words = replicate temperature_count 64 }

abbrev pub quiet_quantities : List Quantities
quiet_quantities = replicate module_count no_quantities

-- string 0 has the sample and the temperatures, strings 1 to 3 are quiet
abbrev pub minor_with : ℕ → Sample → Minor
minor_with wire sample = record { wire = wire; path = 0; samples = sample ∷ quiet_sample ∷ quiet_sample ∷ quiet_sample ∷ [] }

abbrev pub major_with : ℕ → Sample → Temperatures → List Quantities → Major
major_with wire sample temperatures quantities = record {
  minor = minor_with wire sample;
  temperatures = temperatures ∷ quiet_temperatures ∷ quiet_temperatures ∷ quiet_temperatures ∷ [];
  requests = replicate string_count no_requests;
  quantities = quantities;
}

-- quiet, with this drop byte of string 0
abbrev pub dropping_with : ℕ → ℕ → List Quantities → Major
dropping_with wire drop quantities = record {
  minor = minor_with wire quiet_sample;
  temperatures = replicate string_count quiet_temperatures;
  requests = record { inhibit = 0; reenable = 0; drop = drop } ∷ replicate 3 no_requests;
  quantities = quantities;
}

-- the record of the cycle n, which is below 65,536 and so the wire cycle, of the right kind: with this sample; and with the temperatures
-- and quantities, where it is major
abbrev pub record_with : ℕ → Sample → Temperatures → List Quantities → Record
record_with n sample temperatures quantities =
    cond (is_major n) (major (major_with n sample temperatures quantities)) (minor (minor_with n sample))

abbrev pub record_of_sample : ℕ → Sample → Record
record_of_sample n sample = record_with n sample quiet_temperatures quiet_quantities

-- a sample at the major cycles, between them a quiet one
abbrev pub at_majors : ℕ → Sample → Sample
at_majors n sample = cond (is_major n) sample quiet_sample

-- a module's fuel and oxidizer
abbrev pub keeping : ℕ → ℕ → Quantities
keeping fuel oxidizer = record { fuel = fuel; oxidizer = oxidizer }
