-- The premises of 02, order 8, can be met: one major record, taken from fresh, says that manifold 0 of string 0 is closed, inhibits jet 0
-- behind it and re-enables jet 4 of manifold 1, which is open. By the theorems its report has jets 0 and 1 failed and jet 4 good.
-- Assumes nothing.
use mathlib.Core.Path.{◌≡◌, refl}
use mathlib.Core.Bool.{true, false}
use mathlib.Core.List.{[], ◌∷◌}
use Prim.Native.Nat.{◌<◌}
use native.Mathlib.Bridge.{le_by_compare, IsLe}
use Rattle.bits.specs.Bit.{bit}
use Rattle.cycle.specs.Size.{string_count}
use Rattle.cycle.specs.Map.{FitMap, refused}
use Rattle.cycle.specs.Answers.{writes_report}
use Rattle.feed.specs.Bytes.{four}
use Rattle.feed.specs.Heard.{InhibitCarriedOut, ReenableCarriedOut}
use Rattle.feed.specs.SaidClosed.{Newest, SaidClosed}
use Rattle.feed.specs.Calls.{Made, monitor_after, answer_of, report_in, taken_records}
use Rattle.feed.proofs.Reports.ClosedFailed.{closed-failed}
use Rattle.feed.proofs.Reports.RequestsHeeded.{inhibit-heeded, reenable-heeded}
use Rattle.promises.specs.InstanceCalls.{handing}
use Rattle.promises.specs.NightBytes.{three_manifold_map, quiet, requesting_at, record_bytes}
use Rattle.promises.proofs.Nights.{computed}
use Rattle.promises.proofs.InstanceClose.{fits_by, first-string, first-manifold}

-- ---- the map

three-fit : FitMap three_manifold_map
unfolding computed
three-fit = fits_by three_manifold_map refl

three-accepted : refused string_count three_manifold_map ≡ false
unfolding computed
three-accepted = refl

pub second-manifold : 1 < 8
unfolding IsLe
second-manifold = le_by_compare 2 8 tt

-- ---- the record, computed

abbrev asking : Made
asking = handing (record_bytes 25 0x00 (requesting_at 0xFE 0x00000001 0x00000010) quiet)

pub taken : writes_report (answer_of three_manifold_map asking []) ≡ true
unfolding computed monitor_after
taken = refl

pub says-closed : Newest (SaidClosed 0 0) (taken_records three_manifold_map (asking ∷ []))
unfolding computed monitor_after taken_records
says-closed = record { path = refl; valve = refl }

pub inhibits : Newest (InhibitCarriedOut 0 0) (taken_records three_manifold_map (asking ∷ []))
unfolding computed monitor_after taken_records
inhibits = record { mark = refl; path = refl; asked = refl }

pub reenables : Newest (ReenableCarriedOut 0 1 4) (taken_records three_manifold_map (asking ∷ []))
unfolding computed monitor_after taken_records
reenables = record { mark = refl; path = refl; valve = refl; asked = refl }

-- ---- the theorems' instances

behind-failed : bit 1 (four (report_in three_manifold_map asking []) 7) ≡ true
unfolding bit
behind-failed =
    closed-failed three_manifold_map three-fit three-accepted 0 0 1 first-string first-manifold refl asking [] taken says-closed

inhibited-failed : bit 0 (four (report_in three_manifold_map asking []) 7) ≡ true
unfolding bit
inhibited-failed =
    (inhibit-heeded three_manifold_map three-fit three-accepted asking [] taken 0 0 0 first-string first-manifold refl inhibits).1

reenabled-good : bit 4 (four (report_in three_manifold_map asking []) 7) ≡ false
unfolding bit
reenabled-good =
    (reenable-heeded three_manifold_map three-fit three-accepted asking [] taken 0 1 4 first-string second-manifold refl reenables).1
