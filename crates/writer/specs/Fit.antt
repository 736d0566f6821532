-- What the arrays and types of a record's values hold: lists as long as the arrays, numbers that fit their widths. Counts are written as
-- document 01 writes or adds them up. Assumes nothing.
use Rattle.std.specs.Prelude.{◌≡◌, ℕ, ◌<◌, ◌^◌, length, get_or}
use Rattle.cycle.specs.Banks.{no_quantities}
use Rattle.cycle.specs.Hall.{sample_of, no_temperatures, no_requests}
use Rattle.cycle.specs.Records.{Record, minor, major}
use Rattle.cycle.specs.declared.values.Sample.{Sample}
use Rattle.cycle.specs.declared.values.Minor.{Minor}
use Rattle.cycle.specs.declared.values.Temperatures.{Temperatures}
use Rattle.cycle.specs.declared.values.Requests.{Requests}
use Rattle.cycle.specs.declared.values.Quantities.{Quantities}
use Rattle.cycle.specs.declared.values.Major.{Major}

pub record FitSample (x : Sample) : Type 0 where
  pub commanded : x.commanded < 2 ^ 32
  pub pressure : x.pressure < 2 ^ 32
  pub driver : x.driver < 2 ^ 32
  pub valves : x.valves < 2 ^ 8

pub record FitMinor (r : Minor) : Type 0 where
  pub wire : r.wire < 2 ^ 16
  pub path : r.path < 2 ^ 8
  -- four strings
  pub strings : length r.samples ≡ 4
  pub sample : (s : ℕ) → s < 4 → FitSample (sample_of r s)

pub record FitTemperatures (t : Temperatures) : Type 0 where
  -- two words for each of 32 jets
  pub many : length t.words ≡ 64
  pub word : (k : ℕ) → k < 64 → get_or t.words k 0 < 2 ^ 16

pub record FitRequests (x : Requests) : Type 0 where
  pub inhibit : x.inhibit < 2 ^ 32
  pub reenable : x.reenable < 2 ^ 32
  pub drop : x.drop < 2 ^ 8

pub record FitQuantities (q : Quantities) : Type 0 where
  pub fuel : q.fuel < 2 ^ 16
  pub oxidizer : q.oxidizer < 2 ^ 16

pub record FitMajor (r : Major) : Type 0 where
  pub minor : FitMinor r.minor
  -- of four strings
  pub heated : length r.temperatures ≡ 4
  pub temperatures : (s : ℕ) → s < 4 → FitTemperatures (get_or r.temperatures s no_temperatures)
  -- of four strings
  pub asked : length r.requests ≡ 4
  pub requests : (s : ℕ) → s < 4 → FitRequests (get_or r.requests s no_requests)
  -- of three modules
  pub modules : length r.quantities ≡ 3
  pub quantities : (m : ℕ) → m < 3 → FitQuantities (get_or r.quantities m no_quantities)

abbrev pub FitRecord : Record → Type 0
FitRecord (minor r) = FitMinor r
FitRecord (major r) = FitMajor r
