-- 02, order 5: "both give the same reports and corresponding states on every run of records from fresh". Lists are the newest first.
-- Assumes nothing.
use Rattle.std.specs.Prelude.{◌≡◌, false, List, [], ◌∷◌, ℕ, ◌<◌, get_or, Some, None}
use Rattle.bits.specs.Bit.{bit}
use Rattle.cycle.specs.Size.{string_count, jet_count, manifold_count}
use Rattle.cycle.specs.Map.{masks_of, InMask}
use Rattle.cycle.specs.Records.{Record}
use Rattle.cycle.specs.Unmapped.{Unmapped}
use Rattle.cycle.specs.Views.{jet_of}
use Rattle.cycle.specs.Hall.{string_of}
use Rattle.cycle.specs.Hall as packed
use Rattle.cycle.specs.declared.map.Masks.{Masks}
use Rattle.cycle.specs.declared.hall.Hall.{Hall}
use Rattle.feed.specs.Report.{report_of, report_shown}
use Rattle.plain.specs.Jet.{with_state, fresh_on}
use Rattle.plain.specs.String.{jet_at}
use Rattle.plain.specs.Hall as plain
use Rattle.plain.specs.Hall.{string_at}
use Rattle.plain.specs.Shown.{shown_of}
use Rattle.plain.specs.declared.hall.Plain.{Plain}

-- each mapped jet j of string s, on manifold i, is what the packed words say at bit j, every field; an unmapped jet is fresh; a manifold is
-- to be closed exactly where its close bit is set; n and the banks are the same. (Without counterpart: the remembered valve of a manifold
-- without jets, and the remembered path fault of a string without jets.)
pub record Corresponds (h : Hall) (p : Plain) : Type 0 where
  pub number : p.n ≡ h.n
  pub mapped : (s i j : ℕ) → s < string_count → i < manifold_count → InMask (masks_of h.masks s) i j
      → jet_at (string_at p s).jets j ≡ with_state (Some i) (jet_of i j (string_of h s))
  pub unmapped : (s j : ℕ) → s < string_count → j < jet_count → Unmapped (masks_of h.masks s) j
      → jet_at (string_at p s).jets j ≡ fresh_on None
  pub closes : (s i : ℕ) → s < string_count → i < manifold_count → get_or (string_at p s).close i false ≡ bit i (string_of h s).close
  pub banks : p.banks ≡ h.banks

-- each engine from fresh over a map, accepted or refused, after the records that came
unfoldable pub packed_after : List Masks → List Record → Hall
packed_after masks [] = (packed.started masks).hall
packed_after masks (r ∷ rs) = (packed.stepped r (packed_after masks rs)).hall

unfoldable pub plain_after : List Masks → List Record → Plain
plain_after masks [] = (plain.started masks).hall
plain_after masks (r ∷ rs) = (plain.stepped r (plain_after masks rs)).hall

-- what both do with one more record: the same answer, the same report bytes, and corresponding states
pub record StepAlike (r : Record) (h : Hall) (p : Plain) : Type 0 where
  pub answer : (plain.stepped r p).answer ≡ (packed.stepped r h).answer
  pub report : report_shown (plain.stepped r p).answer (shown_of (plain.stepped r p).hall)
      ≡ report_of (packed.stepped r h).answer (packed.stepped r h).hall
  pub states : Corresponds (packed.stepped r h).hall (plain.stepped r p).hall
