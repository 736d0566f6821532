-- The one claim over the single list of nights: every entry holds, by computing the definitions from fresh through every cycle, but that
-- a refusal leaves the hall as it was: that is a law (NightRefusals). Assumes nothing.
use mathlib.Core.Path.{refl}
use mathlib.Core.List.{List, [], ◌∷◌, ◌++◌}
use Rattle.bits.specs.Bit.{bit, without, meets, with_bit, pack, any, every}
use Rattle.cycle.specs.Each.{each, table}
use Rattle.cycle.specs.Map.{mapped, overlap, refused}
use Rattle.cycle.specs.Numbers.{is_major, missed_major, following, judged_at, judged}
use Rattle.cycle.specs.Words.{path_lost, recovered, gapped, off_failure, manifold, passed, manifolds, minor_steps, minor_cycle}
use Rattle.cycle.specs.Words.{requested, behind_closed, leak_word, bad_jets, close_bits, rechecked, on_failure, kept, major_steps, major_cycle}
use Rattle.cycle.specs.Banks.{fuel_less_oxidizer, weighed, weighed_all}
use Rattle.cycle.specs.Hall.{fresh_hall, started, minor_strings, major_strings, taken, both_ways, unless_both_ways, verdict_on, stepped}
use Rattle.feed.specs.Format.{row_of, mark_of, total, sum_of, reserved_zero, quantities_right, good_minor, good_major, marked_look}
use Rattle.feed.specs.Format.{look}
use Rattle.feed.specs.Reader.{settle, reads}
use Rattle.feed.specs.Values.{samples_of, minor_of, words_at, temperatures_of, requests_of, quantities_of, major_of, values_of}
use Rattle.feed.specs.Step.{is_whole, step_of}
use Rattle.feed.specs.Bytes.{parts}
use Rattle.feed.specs.Report.{head_of, string_bytes, strings_bytes, balance_of, words_bytes, banks_bytes, report_of}
use Rattle.feed.specs.Call.{started_over, called, call}
use Rattle.promises.specs.Instance.{warm_words}
use Rattle.promises.specs.NightHolds.{Night, EachHolds, outcomes, before_refusals, after_refusals, calls, cycles}
use Rattle.promises.specs.NightRecords.{night_map}
use Rattle.promises.specs.NightsOfLeaks.{temperature_nights, frozen_nights}
use Rattle.promises.specs.NightsOfJets.{jet_nights}
use Rattle.promises.specs.NightsOfRequests.{request_nights}
use Rattle.promises.specs.NightsOfBothWays.{both_ways_nights}
use Rattle.promises.specs.NightsOfDrops.{repair_nights, drop_nights}
use Rattle.promises.specs.NightsOfManifolds.{manifold_nights}
use Rattle.promises.specs.NightsOfEight.{eight_manifold_nights}
use Rattle.promises.specs.NightsOfClosedValves.{closed_valve_nights}
use Rattle.promises.specs.NightsOfTenants.{tenant_nights}
use Rattle.promises.specs.NightsOfPaths.{path_nights}
use Rattle.promises.specs.NightsOfLostValves.{lost_valve_nights}
use Rattle.promises.specs.Nights.{wires, starred_nights, nights}
use Rattle.promises.proofs.NightRefusals.{holds_by}

-- whoever unfolds this unfolds every definition that a night computes with
unfoldable pub computed : Unit {0}
unfolding bit without meets with_bit pack any every each table mapped overlap refused is_major missed_major following judged_at judged path_lost
    recovered gapped off_failure manifold passed manifolds requested behind_closed leak_word bad_jets close_bits rechecked on_failure kept
    minor_steps major_steps minor_cycle major_cycle fuel_less_oxidizer weighed weighed_all fresh_hall started minor_strings major_strings taken
    both_ways unless_both_ways verdict_on stepped row_of mark_of total sum_of reserved_zero quantities_right good_minor good_major marked_look look
    settle reads samples_of minor_of words_at temperatures_of requests_of quantities_of major_of values_of is_whole step_of parts head_of string_bytes
    strings_bytes balance_of words_bytes banks_bytes report_of started_over called call outcomes before_refusals after_refusals
    calls cycles warm_words
computed = tt

-- part by part, since what one law may compute is bounded

nights-hold-starred : EachHolds starred_nights
unfolding computed starred_nights
nights-hold-starred = (refl, (refl, (refl, (refl, (refl, (refl, (holds_by night_map wires refl refl, (refl, tt))))))))

nights-hold-of-temperatures : EachHolds temperature_nights
unfolding computed temperature_nights
nights-hold-of-temperatures = (refl, (refl, (refl, (refl, (refl, tt)))))

nights-hold-frozen : EachHolds frozen_nights
unfolding computed frozen_nights
nights-hold-frozen = (refl, tt)

nights-hold-of-jets : EachHolds jet_nights
unfolding computed jet_nights
nights-hold-of-jets = (refl, (refl, tt))

nights-hold-of-requests : EachHolds request_nights
unfolding computed request_nights
nights-hold-of-requests = (refl, (refl, (refl, tt)))

nights-hold-of-both-ways : EachHolds both_ways_nights
unfolding computed both_ways_nights
nights-hold-of-both-ways = (refl, (refl, (refl, (refl, tt))))

nights-hold-of-repairs : EachHolds repair_nights
unfolding computed repair_nights
nights-hold-of-repairs = (refl, (refl, tt))

nights-hold-of-drops : EachHolds drop_nights
unfolding computed drop_nights
nights-hold-of-drops = (refl, (refl, (refl, (refl, (refl, (refl, (refl, tt)))))))

nights-hold-of-manifolds : EachHolds manifold_nights
unfolding computed manifold_nights
nights-hold-of-manifolds = (refl, (refl, (refl, (refl, (refl, tt)))))

nights-hold-of-eight : EachHolds eight_manifold_nights
unfolding computed eight_manifold_nights
nights-hold-of-eight = (refl, (refl, (refl, (refl, tt))))

nights-hold-of-closed-valves : EachHolds closed_valve_nights
unfolding computed closed_valve_nights
nights-hold-of-closed-valves = (refl, (refl, (refl, (refl, (refl, (refl, (refl, (refl, (refl, tt)))))))))

nights-hold-of-tenants : EachHolds tenant_nights
unfolding computed tenant_nights
nights-hold-of-tenants = (refl, (refl, tt))

nights-hold-of-paths : EachHolds path_nights
unfolding computed path_nights
nights-hold-of-paths = (refl, (refl, (refl, (refl, (refl, (refl, (refl, tt)))))))

nights-hold-of-lost-valves : EachHolds lost_valve_nights
unfolding computed lost_valve_nights
nights-hold-of-lost-valves = (refl, (refl, (refl, tt)))

both_hold : (l others : List Night) → EachHolds l → EachHolds others → EachHolds (l ++ others)
both_hold [] others h g = g
both_hold (night ∷ l) others h g = (h.0, both_hold l others h.1 g)

pub nights-hold : EachHolds nights
unfolding nights
nights-hold =
    both_hold starred_nights _ nights-hold-starred
    (both_hold temperature_nights _ nights-hold-of-temperatures
    (both_hold jet_nights _ nights-hold-of-jets
    (both_hold request_nights _ nights-hold-of-requests
    (both_hold manifold_nights _ nights-hold-of-manifolds
    (both_hold path_nights _ nights-hold-of-paths
    (both_hold lost_valve_nights _ nights-hold-of-lost-valves
    (both_hold frozen_nights _ nights-hold-frozen
    (both_hold both_ways_nights _ nights-hold-of-both-ways
    (both_hold repair_nights _ nights-hold-of-repairs
    (both_hold drop_nights _ nights-hold-of-drops
    (both_hold eight_manifold_nights _ nights-hold-of-eight
    (both_hold closed_valve_nights tenant_nights nights-hold-of-closed-valves nights-hold-of-tenants))))))))))))
