-- The hall's step on each record of the instance, and the report of it, by computing them. Assumes nothing.
use mathlib.Core.Path.{◌≡◌, refl}
use mathlib.Core.Bool.{false}
use mathlib.Core.List.{List, []}
use Prim.Native.Nat.{ℕ}
use Rattle.bits.specs.Bit.{bit, without, meets, with_bit, pack, any}
use Rattle.cycle.specs.Size.{string_count}
use Rattle.cycle.specs.Each.{each, table}
use Rattle.cycle.specs.Map.{mapped, overlap, refused}
use Rattle.cycle.specs.Numbers.{is_major, missed_major, following, judged_at, judged}
use Rattle.cycle.specs.Words.{recovered, gapped, off_failure, manifold, passed, manifolds, minor_steps, minor_cycle}
use Rattle.cycle.specs.Words.{requested, behind_closed, leak_word, bad_jets, close_bits, rechecked, on_failure, kept, major_steps, major_cycle}
use Rattle.cycle.specs.Banks.{fuel_less_oxidizer, weighed, weighed_all}
use Rattle.cycle.specs.Hall.{fresh_hall, started, minor_strings, major_strings, taken, both_ways, unless_both_ways, verdict_on, stepped}
use Rattle.cycle.specs.Inside.Runs.{hall_after}
use Rattle.cycle.specs.declared.answer.Answer.{Answer}
use Rattle.cycle.specs.declared.answer.Answer.TheVariants.{Taken, Stale, Repeat}
use Rattle.cycle.specs.declared.hall.Hall.{Hall}
use Rattle.feed.specs.Values.{samples_of, minor_of, words_at, temperatures_of, requests_of, quantities_of, major_of, values_of}
use Rattle.feed.specs.Bytes.{parts}
use Rattle.feed.specs.Report.{head_of, string_bytes, strings_bytes, balance_of, words_bytes, banks_bytes, report_of}
use Rattle.feed.specs.Call.{holding, started_over}
use Rattle.promises.specs.NightRecords.{night_map}
use Rattle.promises.specs.NightHolds.{report_of_string}
use Rattle.promises.specs.Instance.{warm_words, major_bytes, minor_bytes}
use Rattle.promises.specs.InstanceCalls.{hall_at25, hall_at50, hall_at75}

-- the record with these bytes at the hall h: the answer, the next hall and the report
pub record Stepping (r : List ℕ) (h : Hall) (a : Answer) (g : Hall) (report : List ℕ) : Type 0 where
  pub step : stepped (values_of r) h ≡ record { answer = a; hall = g }
  pub told : report_of a g ≡ report

pub steps_of : Stepping (major_bytes 25) (fresh_hall night_map) Taken hall_at25 (report_of_string 0 25 0x00000000 0x00)
    × Stepping (major_bytes 50) hall_at25 Taken hall_at50 (report_of_string 0 50 0x00000002 0x00)
    × Stepping (major_bytes 75) hall_at50 Taken hall_at75 (report_of_string 0 75 0x00000002 0x01)
    × Stepping (major_bytes 25) hall_at25 Repeat hall_at25 (report_of_string 2 25 0x00000000 0x00)
    × Stepping (minor_bytes 10) hall_at50 Stale hall_at50 (report_of_string 1 50 0x00000002 0x00)
unfolding bit without meets with_bit pack any each table mapped is_major missed_major following judged_at judged recovered gapped off_failure
    manifold passed manifolds requested behind_closed leak_word bad_jets close_bits rechecked on_failure kept minor_steps major_steps minor_cycle
    major_cycle fuel_less_oxidizer weighed weighed_all fresh_hall minor_strings major_strings taken both_ways unless_both_ways verdict_on stepped
    hall_after samples_of minor_of words_at temperatures_of requests_of quantities_of major_of values_of parts head_of string_bytes strings_bytes
    balance_of words_bytes banks_bytes report_of warm_words major_bytes minor_bytes hall_at25 hall_at50 hall_at75
steps_of = (
  record { step = refl; told = refl },
  record { step = refl; told = refl },
  record { step = refl; told = refl },
  record { step = refl; told = refl },
  record { step = refl; told = refl },
)

pub numbers : (hall_at25.n ≡ 25) × (hall_at50.n ≡ 50) × (hall_at75.n ≡ 75)
unfolding meets any mapped is_major missed_major following judged_at judged fresh_hall taken both_ways unless_both_ways verdict_on stepped hall_after
    hall_at25 hall_at50 hall_at75
numbers = (refl, refl, refl)

-- the map is accepted
pub night-accepted : refused string_count night_map ≡ false
unfolding meets mapped any overlap refused
night-accepted = refl

pub night-starts : (started_over night_map).monitor ≡ holding (fresh_hall night_map) []
unfolding meets mapped any overlap refused started started_over
night-starts = refl
