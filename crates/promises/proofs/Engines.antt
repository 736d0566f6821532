-- 02, order 5: "a second engine that goes jet by jet with yes and no values and no packed words". "Prove that both give the same reports
-- and corresponding states on every run of records from fresh." The packed engine is the one that every other promise is about. What is
-- shown of the plain one holds over any map, accepted or refused, each mask a word of 32 bits as its type has it; lists are the newest
-- first. The words of each statement are defined in specs/ of `plain`, `feed` and `cycle`; each proof is a citation. Assumes nothing.
use mathlib.Core.Path.{◌≡◌}
use mathlib.Core.List.{List}
use Prim.Native.Nat.{ℕ}
use Rattle.cycle.specs.Map.{FitMap}
use Rattle.cycle.specs.Records.{Record}
use Rattle.cycle.specs.Hall as packed
use Rattle.cycle.specs.declared.map.Masks.{Masks}
use Rattle.feed.specs.Call as feed
use Rattle.feed.specs.Calls as calls
use Rattle.feed.specs.Calls.{Made}
use Rattle.plain.specs.Hall as plain
use Rattle.plain.specs.Call as plaincall
use Rattle.plain.specs.Corresponds.{Corresponds, packed_after, plain_after, StepAlike}
use Rattle.plain.specs.CallsAlike.{monitor_after, CallAlike}
use Rattle.plain.proofs.Alike as alike
use Rattle.plain.proofs.CallsAlike as over-calls

module _ (masks : List Masks) (words : FitMap masks) where
  -- both take the map, or both refuse it
  pub start-same : (plain.started masks).answer ≡ (packed.started masks).answer
  start-same = alike.start-same masks words

  -- "corresponding states": after any records, each mapped jet j of string s is what the packed words say at bit j, every field; an
  -- unmapped jet is fresh; close bits, n and banks likewise. (Without counterpart: the remembered valve of a manifold
  -- without jets, and the remembered path fault of a string without jets.)
  pub states-correspond : (rs : List Record) → Corresponds (packed_after masks rs) (plain_after masks rs)
  states-correspond rs = (alike.together-after masks words rs).alike

  -- "the same reports": after any records one more gets the same answer and the same report, byte for byte, and the states still correspond
  pub engines-alike : (rs : List Record) (r : Record) → StepAlike r (packed_after masks rs) (plain_after masks rs)
  engines-alike = alike.engines-alike masks words

  -- a monitor over either engine starts with the same answer
  pub calls-start-same : (plaincall.started_over masks).answer ≡ (feed.started_over masks).answer
  calls-start-same = over-calls.start-alike masks words

  -- over calls: the same bytes in, the same bytes out. Whatever pieces and outboxes the calls before were handed, one more with the same
  -- piece and the same outbox gives the same answer, uses the same bytes and leaves the same whole outbox and corresponding monitors
  pub calls-alike : (cs : List Made) (piece out : List ℕ) → CallAlike (calls.monitor_after masks cs) (monitor_after masks cs) piece out
  calls-alike = over-calls.calls-alike masks words
