-- `cycle::hall::start` meets its contract. Assumes nothing.
use Rattle.std.proofs.Common.{◌≡◌, Bool, true, false, List, replicate}
use Rattle.cycle.specs.Size.{string_count}
use Rattle.cycle.specs.Map.{no_masks, refused}
use Rattle.cycle.specs.Hall.{fresh_hall, started}
use Rattle.cycle.specs.declared.answer.Answer.TheVariants.{Taken, MapRefused}
use Rattle.cycle.specs.declared.map.Masks.{Masks}
use Rattle.cycle.specs.declared.hall.Hall.{Hall}
use Rattle.cycle.proofs.hall.start.Goals as goal

-- by the test on the map
module _ (masks : List Masks) {r : Bool} {h : Hall} where
  refused-start : r ≡ refused string_count masks → r ≡ true → {x : Masks} → x ≡ no_masks → h ≡ fresh_hall (replicate string_count x)
      → record { answer = MapRefused; hall = h } ≡ started masks
  unfolding started
  refused-start p q e f = rw (← p, q, f, e)

  taken_start : r ≡ refused string_count masks → r ≡ false → h ≡ fresh_hall masks → record { answer = Taken; hall = h } ≡ started masks
  unfolding started
  taken_start p q f = rw (← p, q, f)

pub returns-then-refused : goal.returns-then-refused
returns-then-refused c =
    refused-start _ c.refused.ensures c.if-refused.true c.none.ensures c.fresh.ensures

pub returns-else-refused : goal.returns-else-refused
returns-else-refused c = taken_start _ c.refused.ensures c.if-refused.false c.fresh-else-refused.ensures
