-- The nights of temperatures: the starred entry of 01, "Nights to try", as 02, order 3 amends it, and one from bytes to the close bit.
-- Assumes nothing.
use Rattle.std.specs.Prelude.{List, [], ◌∷◌, ◌++◌, map, ℕ, replicate}
use Rattle.cycle.specs.declared.answer.Answer.TheVariants.{Taken}
use Rattle.cycle.specs.declared.values.Temperatures.{Temperatures}
use Rattle.feed.specs.Bytes.{in_two}
use Rattle.promises.specs.Instance.{warm_words}
use Rattle.promises.specs.NightRecords.{night_map, quiet_sample, quiet_quantities, record_with}
use Rattle.promises.specs.NightHolds.{Exchange, Handed, Night, stepping, feeding, report_of_string, since, cycles}
use Rattle.promises.specs.NightBytes.{quiet, record_bytes_at}

-- the fuel word of jet 0 and the oxidizer word of jet 1 are t, every other word 64
abbrev pub two_words : ℕ → Temperatures
two_words t = record { words = t ∷ 64 ∷ 64 ∷ t ∷ replicate 60 64 }

-- so at the major cycles, 25 and 50: jets that leak are failed from 50 on
abbrev pub at_word : ℕ → ℕ → ℕ → Exchange
at_word t leaking n =
    record { given = record_with n quiet_sample (two_words t) quiet_quantities; report = report_of_string 0 n (since 50 leaking n) 0x00 }

-- both jets leak by such a word, through every cycle
abbrev pub leaks_at : ℕ → Night
leaks_at t = stepping night_map (map (at_word t 0x00000003) (cycles 1 50))

-- neither does
abbrev pub leaks_not_at : ℕ → Night
leaks_not_at t = stepping night_map (map (at_word t 0x00000000) (cycles 1 50))

-- "Temperature 63 leaks, 64 does not", "65,535 leaks, 32,768 leaks"; 32,767 does not
unfoldable pub temperature_nights : List Night
temperature_nights = leaks_at 63 ∷ leaks_not_at 64 ∷ leaks_at 65535 ∷ leaks_at 32768 ∷ leaks_not_at 32767 ∷ []

-- Demand 3's "bad" follows. Both words of jet 1 are 65,535 at 25, 50 and 75, all cycles taken: failed at 50, close bit at 75
abbrev pub frozen_words : List ℕ
frozen_words = warm_words 2 ++ in_two 65535 ++ in_two 65535 ++ warm_words 252

abbrev pub frozen_at : ℕ → Handed
frozen_at n = record {
  bytes = record_bytes_at frozen_words n 0x00 quiet quiet;
  answer = Taken;
  report = report_of_string 0 n (since 50 0x00000002 n) (since 75 0x01 n);
}

abbrev pub frozen_jet_closes : Night
frozen_jet_closes = feeding night_map (map frozen_at (cycles 1 75))

unfoldable pub frozen_nights : List Night
frozen_nights = frozen_jet_closes ∷ []
