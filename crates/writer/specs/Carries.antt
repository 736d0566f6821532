-- 01, "The feed", place by place, as 02, order 6, amends it: what values the bytes of a record carry. The numbers are written as the
-- documents write or add them up. Assumes nothing.
use Rattle.std.specs.Prelude.{◌≡◌, List, ℕ, ◌+◌, ◌*◌, ◌<◌, get_or}
use Rattle.cycle.specs.Banks.{no_quantities}
use Rattle.cycle.specs.Hall.{sample_of, no_temperatures, no_requests}
use Rattle.cycle.specs.Records.{Record, minor, major}
use Rattle.cycle.specs.declared.values.Sample.{Sample}
use Rattle.cycle.specs.declared.values.Minor.{Minor}
use Rattle.cycle.specs.declared.values.Temperatures.{Temperatures}
use Rattle.cycle.specs.declared.values.Requests.{Requests}
use Rattle.cycle.specs.declared.values.Quantities.{Quantities}
use Rattle.cycle.specs.declared.values.Major.{Major}
use Rattle.feed.specs.Bytes.{two, four}

-- "commanded C (4), pressure P (4), driver D (4), valve-open V (1; ..)", from place i on
pub record CarriesSample (l : List ℕ) (i : ℕ) (x : Sample) : Type 0 where
  pub commanded : four l i ≡ x.commanded
  pub pressure : four l (i + 4) ≡ x.pressure
  pub driver : four l (i + 8) ≡ x.driver
  pub valves : get_or l (i + 12) 0 ≡ x.valves

-- "mark ..; wire cycle, 2 bytes; path byte ..; for each string 13 bytes"
pub record CarriesMinor (l : List ℕ) (r : Minor) : Type 0 where
  pub wire : two l 2 ≡ r.wire
  pub path : get_or l 4 0 ≡ r.path
  pub samples : (s : ℕ) → s < 4 → CarriesSample l (5 + 13 * s) (sample_of r s)

-- "jet by jet, fuel word then oxidizer word", from place i on
pub record CarriesTemperatures (l : List ℕ) (i : ℕ) (t : Temperatures) : Type 0 where
  pub fuel : (j : ℕ) → j < 32 → two l (i + 4 * j) ≡ get_or t.words (2 * j) 0
  pub oxidizer : (j : ℕ) → j < 32 → two l (i + 4 * j + 2) ≡ get_or t.words (2 * j + 1) 0

-- "an inhibit word and a re-enable word (4 bytes each)", from place i on; 02, order 6: the drop byte, at place k
pub record CarriesRequests (l : List ℕ) (i k : ℕ) (x : Requests) : Type 0 where
  pub inhibit : four l i ≡ x.inhibit
  pub reenable : four l (i + 4) ≡ x.reenable
  pub drop : get_or l k 0 ≡ x.drop

-- "fuel then oxidizer, 2 bytes each"
pub record CarriesQuantities (l : List ℕ) (i : ℕ) (q : Quantities) : Type 0 where
  pub fuel : two l i ≡ q.fuel
  pub oxidizer : two l (i + 2) ≡ q.oxidizer

-- "the same 55 bytes after the mark; 512 bytes of injector temperatures (string by string, ..); for each string ..; for each module .."
pub record CarriesMajor (l : List ℕ) (r : Major) : Type 0 where
  pub common : CarriesMinor l r.minor
  pub temperatures : (s : ℕ) → s < 4 → CarriesTemperatures l (57 + 128 * s) (get_or r.temperatures s no_temperatures)
  pub requests : (s : ℕ) → s < 4 → CarriesRequests l (569 + 8 * s) (601 + s) (get_or r.requests s no_requests)
  pub quantities : (m : ℕ) → m < 3 → CarriesQuantities l (605 + 4 * m) (get_or r.quantities m no_quantities)

abbrev pub Carries : List ℕ → Record → Type 0
Carries l (minor r) = CarriesMinor l r
Carries l (major r) = CarriesMajor l r
