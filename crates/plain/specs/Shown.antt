-- What a report shows of the plain engine. Assumes nothing.
use Rattle.std.specs.Prelude.{Bool, false, ◌&&◌, List, ℕ, get_or}
use Rattle.bits.specs.Bit.{pack}
use Rattle.cycle.specs.Size.{string_count, jet_count, manifold_count}
use Rattle.cycle.specs.Each.{table}
use Rattle.feed.specs.declared.report.Shown.{Shown}
use Rattle.plain.specs.Jet.{mapped_jet}
use Rattle.plain.specs.String.{jet_at}
use Rattle.plain.specs.Hall.{string_at}
use Rattle.plain.specs.declared.jet.Jet.{Jet}
use Rattle.plain.specs.declared.hall.Plain.{Plain}

-- the word of n bits whose bit j says that jet j has failed; bits of jets in no mask "are 0 in reports"
unfoldable pub fail_word : ℕ → List Jet → ℕ
fail_word n jets = pack n (λ j. mapped_jet (jet_at jets j) && (jet_at jets j).standing.fail)

-- and whose bit i says that manifold i is to be closed
unfoldable pub close_word : ℕ → List Bool → ℕ
close_word n close = pack n (λ i. get_or close i false)

unfoldable pub shown_of : Plain → Shown
shown_of p = record {
  n = p.n;
  strings = table string_count
      (λ s. record { fail = fail_word jet_count (string_at p s).jets; close = close_word manifold_count (string_at p s).close });
  banks = p.banks;
}
