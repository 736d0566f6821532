-- 02, order 9: two nights of one tenant over the same map, from bytes, the neighbours asleep in the one and at work in the other. The
-- tenant has manifold 1 of string 0, jets 4 to 7; manifolds 0 and 2, jets 0 to 3 and 8 to 11, and string 1 are let to others. In both
-- nights the driver of jet 5 is on at 25, 50 and 75 without command: the jet is failed at 50, and the close bit comes at 75.
-- Assumes nothing.
use Rattle.std.specs.Prelude.{List, [], ◌∷◌, ◌++◌, ℕ, replicate}
use Rattle.cycle.specs.Map.{no_masks}
use Rattle.cycle.specs.declared.answer.Answer.{Answer}
use Rattle.cycle.specs.declared.answer.Answer.TheVariants.{Taken, Stale, BothWays}
use Rattle.cycle.specs.declared.map.Masks.{Masks}
use Rattle.feed.specs.Bytes.{in_two, in_four}
use Rattle.promises.specs.Instance.{warm_words}
use Rattle.promises.specs.NightHolds.{Handed, Night, feeding, no_banks}
use Rattle.promises.specs.NightBytes.{Said, quiet, driving, commanding, major_with_at, minor_at, Shown, shows, shown_bytes}

abbrev pub tenant_map : List Masks
tenant_map =
    record { words = 0x0000000F ∷ 0x000000F0 ∷ 0x00000F00 ∷ replicate 5 0 }
    ∷ record { words = 0x000000FF ∷ replicate 7 0 }
    ∷ no_masks
    ∷ no_masks
    ∷ []

-- a record, its answer, the number after it, what is shown of strings 0 and 1, and of the banks
abbrev pub getting : List ℕ → Answer → ℕ → ℕ → Shown → Shown → List ℕ → Handed
getting bytes answer number n first second banks = record {
  bytes = bytes;
  answer = answer;
  report = 0x52 ∷ 0x52 ∷ number ∷ in_four n ++ shown_bytes first ++ shown_bytes second ++ replicate 10 0x00 ++ banks;
}

-- ---- the neighbours asleep

abbrev pub alone : ℕ → List ℕ
alone n = major_with_at (warm_words 256) (replicate 12 0x00) n 0x00 (driving 0x00000020) quiet

abbrev pub alone_at : ℕ → ℕ → ℕ → Handed
alone_at n fail close = getting (alone n) Taken 0 n (shows fail close) (shows 0x00000000 0x00) no_banks

abbrev pub tenant_alone : List Handed
tenant_alone = alone_at 25 0x00000000 0x00 ∷ alone_at 50 0x00000020 0x00 ∷ alone_at 75 0x00000020 0x02 ∷ []

-- ---- the neighbours at work

-- jets 1 and 8 leak: their fuel words are 65,535 and 63
abbrev pub cold_words : List ℕ
cold_words = warm_words 2 ++ in_two 65535 ++ warm_words 13 ++ in_two 63 ++ warm_words 239

-- module 0 holds 1,000 and 200, the others 500 and 500
abbrev pub uneven : List ℕ
uneven = in_two 1000 ++ in_two 200 ++ in_two 500 ++ in_two 500 ++ in_two 500 ++ in_two 500

-- module 0 is out of balance, its oxidizer the lesser by 800
abbrev pub uneven_banks : List ℕ
uneven_banks = 0x11 ∷ in_two 200 ++ in_two 500 ++ in_two 500 ++ in_two 800 ++ in_two 0 ++ in_two 0

-- of string 0: jets 3, 9 and 12, which is in no mask, commanded, jet 3 with pressure; the drivers of jets 0 and 2 on beside that of jet 5;
-- the valves of manifolds 2 and 7 closed; these requests
abbrev pub working : ℕ → ℕ → ℕ → Said
working inhibit reenable drop = record {
  sample = record { commanded = 0x00001208; pressure = 0x00000008; driver = 0x00000025; valves = 0x7B };
  requests = record { inhibit = inhibit; reenable = reenable; drop = drop };
}

-- string 1 has all jets commanded, without pressure, and its path bit is set
abbrev pub beside : ℕ → Said → List ℕ
beside n said = major_with_at cold_words uneven n 0x02 said (commanding 0xFFFFFFFF)

abbrev pub beside_at : ℕ → Said → ℕ → ℕ → Handed
beside_at n said fail close =
    getting (beside n said) Taken 0 n (shows fail close) (shows 0x00000000 0x00) uneven_banks

-- a stale record behind the first; and record 50 comes first with the neighbour's jet 3 named both ways
abbrev pub stale_at : ℕ → ℕ → Handed
stale_at wire n =
    getting (minor_at wire 0x0F (commanding 0xFFFFFFFF) quiet) Stale 1 n (shows 0x00000F00 0x00) (shows 0x00000000 0x00) uneven_banks

abbrev pub both_ways_at : ℕ → ℕ → Handed
both_ways_at wire n =
    getting (beside wire (working 0x00000008 0x00000008 0x00)) BothWays 7 n (shows 0x00000F00 0x00) (shows 0x00000000 0x00) uneven_banks

abbrev pub tenant_beside : List Handed
tenant_beside =
    beside_at 25 (working 0x00000000 0x00000000 0x00) 0x00000F00 0x00
    ∷ stale_at 10 25
    ∷ both_ways_at 50 25
    ∷ beside_at 50 (working 0x00000008 0x00000100 0x01) 0x00000F2F 0x00
    ∷ beside_at 75 (working 0x00000000 0x00000000 0x04) 0x00000F2F 0x07
    ∷ []

-- ---- the nights

unfoldable pub tenant_nights : List Night
tenant_nights = feeding tenant_map tenant_alone ∷ feeding tenant_map tenant_beside ∷ []
