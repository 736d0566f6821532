-- 02, order 8, in the hall: from fresh over an accepted map, and at every step of a proper hall that has it, each mapped jet whose
-- manifold is remembered as closed is failed. Assumes nothing.
use Rattle.std.proofs.Common.{◌≡◌, false, List, [], sym, refl, subst}
use Rattle.cycle.specs.Size.{string_count}
use Rattle.cycle.specs.Map.{masks_of, InMask, FitMap, refused}
use Rattle.cycle.specs.Records.{Record, common}
use Rattle.cycle.specs.Hall.{fresh_hall, verdict_on, stepped_by, stepped}
use Rattle.cycle.specs.Proper.{ProperHall}
use Rattle.cycle.specs.ShutOut.{ShutOutJet, ShutOutHall}
use Rattle.cycle.specs.declared.hall.Hall.{Hall}
use Rattle.cycle.specs.declared.map.Masks.{Masks}
use Rattle.cycle.specs.Numbers.{Verdict}
use Rattle.std.specs.Prelude.{Ok, Err}
use Rattle.cycle.proofs.Verdicts.{verdict-follows}
use Rattle.cycle.proofs.HallAgrees.{jet-after, map-after}
use Rattle.cycle.proofs.Runs.{run-fresh}
use Rattle.cycle.proofs.ShutOut.{cycle-shut-out, run-shut-out}

pub fresh-hall-shut-out : (masks : List Masks) → FitMap masks → refused string_count masks ≡ false → ShutOutHall (fresh_hall masks)
unfolding fresh_hall
fresh-hall-shut-out masks fit accepted s i j l below stands =
    subst ShutOutJet (sym ((run-fresh masks fit accepted).told.jets s i j l below stands)) (run-shut-out [])

pub stepped-shut-out : (r : Record) (h : Hall) → ProperHall h → ShutOutHall h → ShutOutHall (stepped r h).hall
unfolding stepped
stepped-shut-out r h p c = by (verdict_on h.n h.masks r) refl
  where
    by : (v : Verdict) → verdict_on h.n h.masks r ≡ v → ShutOutHall (stepped_by v r h).hall
    by (Ok next) e s i j l below stands =
        let here : InMask (masks_of h.masks s) i j = rw (sym (map-after r next h)) stands in
        subst ShutOutJet
        (sym (jet-after h p (common r).wire next s l r (verdict-follows h.n h.masks r next e) i j below here))
        (cycle-shut-out h.n _ _ (c s i j l below here))
    by (Err a) e s i j l below stands = c s i j l below stands
