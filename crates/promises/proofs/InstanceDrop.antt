-- The instance of the drop: behind record 75, whose report has the close bit of manifold 0 of string 0, record 100 carries out its drop;
-- its report has the bit no more, and by the theorems no record since then is a third. Assumes nothing.
use mathlib.Core.Path.{◌≡◌, refl, sym, ap, subst, ◌∙◌}
use mathlib.Core.Bool.{true}
use mathlib.Core.List.{List, [], ◌∷◌, ◌++◌}
use mathlib.Core.Logic.{inl}
use Prim.Native.Nat.{ℕ}
use native.Mathlib.Bridge.{le_by_compare, IsLe}
use Rattle.bits.specs.Bit.{bit, without, meets, with_bit, pack, any, every}
use Rattle.bits.proofs.Yes.{not-both}
use Rattle.cycle.specs.Each.{each, table}
use Rattle.cycle.specs.Map.{mapped}
use Rattle.cycle.specs.Numbers.{is_major, missed_major, following, judged_at, judged}
use Rattle.cycle.specs.Words.{recovered, gapped, off_failure, manifold, passed, manifolds, minor_steps, minor_cycle}
use Rattle.cycle.specs.Words.{requested, behind_closed, leak_word, bad_jets, close_bits, rechecked, on_failure, kept, major_steps, major_cycle}
use Rattle.cycle.specs.Banks.{fuel_less_oxidizer, weighed, weighed_all}
use Rattle.cycle.specs.Hall.{fresh_hall, minor_strings, major_strings, taken, both_ways, unless_both_ways, verdict_on, stepped}
use Rattle.cycle.specs.Inside.Runs.{hall_after}
use Rattle.cycle.specs.declared.answer.Answer.TheVariants.{Taken}
use Rattle.feed.specs.Format.{row_of, mark_of, total, sum_of, reserved_zero, quantities_right, good_major, marked_look, look}
use Rattle.feed.specs.Reader.{settle, reads}
use Rattle.feed.specs.Values.{samples_of, minor_of, words_at, temperatures_of, requests_of, quantities_of, major_of, values_of}
use Rattle.feed.specs.Bytes.{parts}
use Rattle.feed.specs.Report.{head_of, string_bytes, strings_bytes, balance_of, words_bytes, banks_bytes, report_of}
use Rattle.feed.specs.Heard.{DropCarriedOut}
use Rattle.feed.specs.Settled.{record_in}
use Rattle.feed.specs.Step.{is_whole}
use Rattle.feed.specs.Call.{holds, holding, call, Result}
use Rattle.feed.specs.Calls.{monitor_after, result_of, taken_records}
use Rattle.feed.specs.CloseShown.{ThirdSince, TakesDrop, NotShownSince}
use Rattle.feed.specs.declared.call.Monitor.{Monitor}
use Rattle.feed.proofs.Calls.Turning.{holds_same}
use Rattle.feed.proofs.Reports.CloseFirst.{close_never}
use Rattle.promises.specs.NightRecords.{night_map}
use Rattle.promises.specs.NightHolds.{report_of_string}
use Rattle.promises.specs.Instance.{warm_words, repair_bytes}
use Rattle.promises.specs.InstanceCalls.{room, handing, made_of, up_to75, drop_taken, hall_at75, hall_at100}
use Rattle.promises.proofs.InstanceReads.{Stopping}
use Rattle.promises.proofs.InstanceSteps.{Stepping, night-accepted}
use Rattle.promises.proofs.InstanceCalls.{settling}
use Rattle.promises.proofs.InstanceGiven.{feed-given}
use Rattle.promises.proofs.InstanceClose.{night-fits, close_in, first-string, first-manifold}

-- ---- record 100, computed

read_whole : (is_whole repair_bytes ≡ true) × (record_in repair_bytes ≡ repair_bytes) × Stopping [] repair_bytes 619 repair_bytes []
unfolding IsLe every row_of mark_of total sum_of reserved_zero quantities_right good_major marked_look look settle reads is_whole
    warm_words repair_bytes
read_whole = (refl, refl, record { short = le_by_compare 0 618 tt; count = refl; stop = refl })

carried-out : DropCarriedOut 0 0 repair_bytes
unfolding bit warm_words repair_bytes
carried-out = record { mark = refl; path = refl; asked = refl }

steps : Stepping repair_bytes hall_at75 Taken hall_at100 (report_of_string 0 100 0x00000002 0x00)
unfolding bit without meets with_bit pack any each table mapped is_major missed_major following judged_at judged recovered gapped off_failure
    manifold passed manifolds requested behind_closed leak_word bad_jets close_bits rechecked on_failure kept minor_steps major_steps minor_cycle
    major_cycle fuel_less_oxidizer weighed weighed_all fresh_hall minor_strings major_strings taken both_ways unless_both_ways verdict_on stepped
    hall_after samples_of minor_of words_at temperatures_of requests_of quantities_of major_of values_of parts head_of string_bytes strings_bytes
    balance_of words_bytes banks_bytes report_of warm_words repair_bytes hall_at75 hall_at100
steps = record { step = refl; told = refl }

-- ---- the call that takes it

before : monitor_after night_map (made_of up_to75) ≡ holding hall_at75 []
unfolding monitor_after
before = ap (λ (r : Result). r.outcome.monitor) feed-given.0.1.0

given : result_of night_map (handing repair_bytes) (made_of up_to75) ≡ drop_taken.result
given =
    ap (λ (m : Monitor). call m repair_bytes room) before
    ∙ settling {h = hall_at75} {g = hall_at100} {held = []} {piece = repair_bytes} {r = repair_bytes} {rest = []} read_whole.2
    read_whole.0 steps

-- it carries out a drop
pub drop-taken : TakesDrop night_map 0 0 (handing repair_bytes) (made_of up_to75)
unfolding IsLe
drop-taken =
    let empty : holds (monitor_after night_map (made_of up_to75)) ≡ [] =
    ap holds before ∙ holds_same hall_at75 [] (le_by_compare 0 618 tt) in (
      ap (λ (r : Result). r.outcome.answer) given,
      subst (λ (l : List ℕ). DropCarriedOut 0 0 (record_in (l ++ repair_bytes))) (sym empty)
          (subst (DropCarriedOut 0 0) (sym read_whole.1) carried-out),
    )

-- ---- the theorems' instances

-- since the drop no report has the close bit
pub gone-since : NotShownSince night_map 0 0 (handing repair_bytes ∷ made_of up_to75)
unfolding bit
gone-since = (
  (λ w s. not-both (close_in drop_taken.result) (ap close_in (sym given) ∙ s) refl),
  inl drop-taken,
)

-- and no record is a third
pub none-by-100 : ThirdSince 0x0000000F 0 0 (taken_records night_map (handing repair_bytes ∷ made_of up_to75)) → ⊥
none-by-100 =
    (close_never night_map night-fits night-accepted 0 0 first-string first-manifold (handing repair_bytes ∷ made_of up_to75)).0 gone-since
