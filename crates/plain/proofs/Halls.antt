-- The hall's step by the verdict, over plain values; and what is opened of a minor record. Assumes nothing.
use mathlib.Core.Path.{◌≡◌, refl, sym, ap, ap₂, ◌∙◌}
use mathlib.Core.Bool.{Bool, true, false}
use mathlib.Core.List.{List, []}
use Prim.Native.Nat.{ℕ, zero, suc, ◌+◌, ◌*◌, ◌<◌}
use lib.ListN.{get_or, replicate, get_or-replicate}
use Rattle.bits.specs.Bit.{bit}
use Rattle.cycle.specs.Size.{string_count, jet_count}
use Rattle.cycle.specs.Numbers.{judged}
use Rattle.cycle.specs.Records.{Record, major_kind, common}
use Rattle.cycle.specs.Hall.{sample_of, no_temperatures, no_requests, unless_both_ways}
use Rattle.cycle.specs.declared.answer.Answer.{Answer}
use Rattle.cycle.specs.declared.answer.Answer.TheVariants.{Taken, MapRefused, BothWays}
use Rattle.cycle.specs.Map.{no_masks}
use Rattle.cycle.specs.declared.map.Masks.{Masks}
use Rattle.cycle.specs.declared.number.Next.{Next}
use Rattle.cycle.specs.Numbers.{Verdict}
use Rattle.std.specs.Prelude.{Ok, Err}
use Rattle.cycle.specs.declared.values.Minor.{Minor}
use Rattle.cycle.specs.declared.values.Sample.{Sample}
use Rattle.cycle.specs.declared.values.Temperatures.{Temperatures}
use Rattle.feed.proofs.Records.Tables.{table_same}
use Rattle.plain.specs.Jet.{place_of, past_jet}
use Rattle.plain.specs.Said.{jet_said, past_string, drops_said, string_said, opened}
use Rattle.plain.specs.Map.{refused}
use Rattle.plain.specs.Hall.{fresh_plain, started, record_both_ways, taken, verdict_on, stepped_by, stepped}
use Rattle.plain.specs.declared.jet.Jet.{Jet}
use Rattle.plain.specs.declared.hall.Plain.{Plain}
use Rattle.plain.specs.declared.said.JetSaid.{JetSaid}
use Rattle.plain.specs.declared.string.PlainString.{PlainString}

-- ---- by the verdict

module _ (r : Record) (p : Plain) where
  pub step-refuses : (a : Answer) → Err a ≡ judged p.n (common r).wire (major_kind r) → record { answer = a; hall = p } ≡ stepped r p
  unfolding stepped verdict_on unless_both_ways
  step-refuses a w = ap (λ (x : Verdict). stepped_by (unless_both_ways (record_both_ways r p) x) r p) w

  module _ (next : Next) (w : Ok next ≡ judged p.n (common r).wire (major_kind r)) {both : Bool} (named : both ≡ record_both_ways r p) where
    pub step-named : both ≡ true → record { answer = BothWays; hall = p } ≡ stepped r p
    unfolding stepped verdict_on unless_both_ways
    step-named t =
        ap₂ (λ (b : Bool) (x : Verdict). stepped_by (unless_both_ways b x) r p) (sym t ∙ named) w

    pub step-takes : both ≡ false → {x : Plain} → x ≡ taken r next p → record { answer = Taken; hall = x } ≡ stepped r p
    unfolding stepped verdict_on unless_both_ways
    step-takes t g =
        ap (λ (y : Plain). record { answer = Taken; hall = y }) g
        ∙ ap₂ (λ (b : Bool) (x : Verdict). stepped_by (unless_both_ways b x) r p) (sym t ∙ named) w

-- ---- a minor record: requests and temperatures that are all 0 say nothing

abbrev zero_words : ℕ → Temperatures
zero_words k = record { words = replicate k 0 }

word_none : (k i : ℕ) → ◌≡◌ {A = ℕ} (get_or (replicate k 0) i 0) 0
word_none zero i = refl
word_none (suc k) zero = refl
word_none (suc k) (suc i) = word_none k i

module _ (path : Bool) (x : Sample) (k : ℕ) (jets : List Jet) where
  zero-string : string_said path x no_requests (zero_words k) jets ≡ string_said path x no_requests no_temperatures jets
  unfolding string_said
  zero-string =
      ap (λ (l : List JetSaid). record { path = path; drops = drops_said no_requests; jets = l }) (table_same _ _ jet_count (λ j h. jet j))
    where
      jet : (j : ℕ)
          → jet_said x no_requests (zero_words k) (place_of (get_or jets j past_jet).place) j
          ≡ jet_said x no_requests no_temperatures (place_of (get_or jets j past_jet).place) j
      jet j = rw (word_none k (2 * j), word_none k (2 * j + 1))

pub opened-silent : (r : Minor) (k : ℕ) (l : List PlainString)
    → opened r (replicate string_count (zero_words k)) (replicate string_count no_requests) l ≡ opened r [] [] l
unfolding opened
opened-silent r k l = table_same _ _ string_count string
  where
    string : (s : ℕ) → s < string_count
        → string_said (bit s r.path) (sample_of r s) (get_or (replicate string_count no_requests) s no_requests)
        (get_or (replicate string_count (zero_words k)) s no_temperatures) (get_or l s past_string).jets
        ≡ string_said (bit s r.path) (sample_of r s) no_requests no_temperatures (get_or l s past_string).jets
    string s h =
        rw (get_or-replicate string_count s no_requests no_requests h, get_or-replicate string_count s (zero_words k) no_temperatures h)
        (zero-string (bit s r.path) (sample_of r s) k (get_or l s past_string).jets)

-- ---- by the test on the map

module _ (masks : List Masks) {r : Bool} {p : Plain} where
  pub refused-start : r ≡ refused string_count masks → r ≡ true → {x : Masks} → x ≡ no_masks → p ≡ fresh_plain (replicate string_count x)
      → record { answer = MapRefused; hall = p } ≡ started masks
  unfolding started
  refused-start e q n f = rw (← e, q, f, n)

  pub taken_start : r ≡ refused string_count masks → r ≡ false → p ≡ fresh_plain masks → record { answer = Taken; hall = p } ≡ started masks
  unfolding started
  taken_start e q f = rw (← e, q, f)
