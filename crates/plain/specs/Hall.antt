-- The plain engine's hall of four strings: which answer a record gets, and the next state. 01, "Which answer a record gets".
-- Assumes nothing.
use Rattle.std.specs.Prelude.{Bool, true, false, cond, List, ℕ, get_or, replicate}
use Rattle.bits.specs.Bit.{any}
use Rattle.cycle.specs.Size.{string_count, jet_count, module_count}
use Rattle.cycle.specs.Each.{each, table}
use Rattle.cycle.specs.Map.{no_masks, masks_of}
use Rattle.cycle.specs.Banks.{no_bank, weighed_all}
use Rattle.cycle.specs.Numbers.{judged}
use Rattle.cycle.specs.Records.{Record, minor, major, major_kind, common}
use Rattle.cycle.specs.Hall.{unless_both_ways}
use Rattle.cycle.specs.declared.answer.Answer.TheVariants.{Taken, MapRefused}
use Rattle.cycle.specs.declared.map.Masks.{Masks}
use Rattle.cycle.specs.declared.number.Next.{Next}
use Rattle.cycle.specs.Numbers.{Verdict}
use Rattle.std.specs.Prelude.{Ok, Err}
use Rattle.plain.specs.Said.{silent, past_string, opened_record}
use Rattle.plain.specs.Map.{refused, fresh_string}
use Rattle.plain.specs.String.{cycle, string_both_ways}
use Rattle.plain.specs.declared.said.StringSaid.{StringSaid}
use Rattle.plain.specs.declared.string.PlainString.{PlainString}
use Rattle.plain.specs.declared.hall.Plain.{Plain}
use Rattle.cycle.specs.declared.hall.Stepped.{Stepped}

-- string s
abbrev pub string_at : Plain → ℕ → PlainString
string_at p s = get_or p.strings s past_string

-- "n, 0 when fresh"; banks "all 0 when fresh"
unfoldable pub fresh_plain : List Masks → Plain
fresh_plain masks =
    record { n = 0; strings = table string_count (λ s. fresh_string (masks_of masks s)); banks = replicate module_count no_bank }

-- starting over a map: 6 "if two masks of one string overlap", and then "a fresh one over the empty map"
unfoldable pub started : List Masks → Stepped Plain
started masks =
    cond (refused string_count masks) (record { answer = MapRefused; hall = fresh_plain (replicate string_count no_masks) })
    (record { answer = Taken; hall = fresh_plain masks })

-- a taken record's cycle, for the lowest n strings; kind: is it major
unfoldable pub cycles : ℕ → List StringSaid → Next → Bool → List PlainString → List PlainString
cycles n said next kind l = each n (λ s x. cycle (get_or said s silent) next kind x) past_string l

-- for all of them, and the new n
abbrev pub cycled : List StringSaid → Next → Bool → Plain → Plain
cycled said next kind p = record { n = next.n; strings = cycles string_count said next kind p.strings; banks = p.banks }

-- 02, order 4: "strings with the path bit set counted too"
unfoldable pub both_ways : ℕ → List StringSaid → List PlainString → Bool
both_ways n said strings = any n (λ s. string_both_ways jet_count (get_or said s silent) (get_or strings s past_string).jets)

-- a minor record has no requests
abbrev pub record_both_ways : Record → Plain → Bool
record_both_ways (minor r) p = false
record_both_ways (major r) p = both_ways string_count (opened_record (major r) p.strings) p.strings

-- the next state, where the record is taken; a major one's quantities are weighed "whatever the path bits"
unfoldable pub taken : Record → Next → Plain → Plain
taken (minor r) next p = cycled (opened_record (minor r) p.strings) next false p
taken (major r) next p =
    let after = cycled (opened_record (major r) p.strings) next true p in
    record { n = after.n; strings = after.strings; banks = weighed_all module_count r.quantities after.banks }

-- the verdict: by the number (cycle's Numbers), and "answer 7, tested after 4"
unfoldable pub verdict_on : Record → Plain → Verdict
verdict_on r p = unless_both_ways (record_both_ways r p) (judged p.n (common r).wire (major_kind r))

-- "stepped", or "as before"
abbrev pub stepped_by : Verdict → Record → Plain → Stepped Plain
stepped_by (Ok next) r p = record { answer = Taken; hall = taken r next p }
stepped_by (Err a) r p = record { answer = a; hall = p }

unfoldable pub stepped : Record → Plain → Stepped Plain
stepped r p = stepped_by (verdict_on r p) r p
