-- Two records that agree on all but unmapped jets step every hall alike. Assumes nothing.
use Rattle.std.proofs.Common.{◌≡◌, ℕ, ◌<◌, Bool, true, false, List, get_or, sym, refl, ap, ◌∙◌, ap₂}
use Rattle.bits.specs.Bit.{bit}
use Rattle.bits.proofs.Yes.{not-both, same-yes}
use Rattle.cycle.specs.Size.{string_count, manifold_count, module_count}
use Rattle.cycle.specs.Map.{masks_of, mapped, InMask}
use Rattle.cycle.specs.Numbers.{judged}
use Rattle.cycle.specs.Jets.{JetRecord}
use Rattle.cycle.specs.Leak.{leaks}
use Rattle.cycle.specs.Banks.{weighed_all}
use Rattle.cycle.specs.Records.{Record, minor, major, common}
use Rattle.cycle.specs.Hall.{past_string, sample_of, no_temperatures, no_requests, minor_strings, major_strings, taken, stepped_by, stepped}
use Rattle.cycle.specs.Hall.{record_both_ways, unless_both_ways, verdict_on}
use Rattle.cycle.specs.Views.{jet_says, jet_record, drop_byte}
use Rattle.cycle.specs.BothWays.{NamedBothWays}
use Rattle.cycle.specs.Unmapped.{Alike}
use Rattle.cycle.specs.declared.answer.Answer.TheVariants.{Taken}
use Rattle.cycle.specs.declared.banks.Bank.{Bank}
use Rattle.cycle.specs.declared.hall.Hall.{Hall}
use Rattle.cycle.specs.declared.map.Masks.{Masks}
use Rattle.cycle.specs.declared.number.Next.{Next}
use Rattle.cycle.specs.Numbers.{Verdict}
use Rattle.std.specs.Prelude.{Ok, Err}
use Rattle.cycle.specs.declared.string.StringState.{StringState}
use Rattle.cycle.specs.declared.values.Temperatures.{Temperatures}
use Rattle.cycle.specs.declared.values.Requests.{Requests}
use Rattle.cycle.specs.declared.values.Major.{Major}
use Rattle.cycle.specs.declared.values.Quantities.{Quantities}
use Rattle.cycle.proofs.Maps.{mapped-found}
use Rattle.cycle.proofs.BothWays.{names-exactly}
use Rattle.cycle.proofs.Each.{each_same}
use Rattle.cycle.proofs.UnmappedWords.{leak-same, AlikeString, minor-cycle-same, major-cycle-same}

-- ---- string by string

-- what the record says of a string: a minor one says nothing of requests and temperatures
abbrev requests_of : Record → ℕ → Requests
requests_of (minor r) s = no_requests
requests_of (major r) s = get_or r.requests s no_requests

abbrev temperatures_of : Record → ℕ → Temperatures
temperatures_of (minor r) s = no_temperatures
temperatures_of (major r) s = get_or r.temperatures s no_temperatures

says : (r : Record) (s i j : ℕ)
    → jet_record 0 s i j r ≡ jet_says 0 (bit s (common r).path) i j (sample_of (common r) s) (requests_of r s) (temperatures_of r s)
says (minor r) s i j = refl
says (major r) s i j = refl

alike-string : (masks : List Masks) (a b : Record) → Alike masks a b → (s : ℕ) → s < string_count
    → AlikeString (masks_of masks s) (sample_of (common a) s) (sample_of (common b) s) (requests_of a s) (requests_of b s) (temperatures_of a s)
    (temperatures_of b s)
alike-string masks a b alike s l = record {
  valves = alike.valves s l;
  commanded = λ j e. ap (λ (r : JetRecord). r.commanded) (same j e);
  pressure = λ j e. ap (λ (r : JetRecord). r.pressure) (same j e);
  driver = λ j e. ap (λ (r : JetRecord). r.driver) (same j e);
  inhibit = λ j e. ap (λ (r : JetRecord). r.inhibit) (same j e);
  reenable = λ j e. ap (λ (r : JetRecord). r.reenable) (same j e);
  drop = drop_of a ∙ alike.drops s l ∙ sym (drop_of b);
  leak = λ j e. leak-same (temperatures_of a s) (temperatures_of b s) j (ap (λ (r : JetRecord). leaks r.fuel r.oxidizer) (same j e));
}
  where
    drop_of : (r : Record) → (requests_of r s).drop ≡ drop_byte s r
    drop_of (minor r) = refl
    drop_of (major r) = refl

    says_of : Record → ℕ → ℕ → JetRecord
    says_of r i j = jet_says 0 (bit s (common r).path) i j (sample_of (common r) s) (requests_of r s) (temperatures_of r s)

    same : (j : ℕ) (e : bit j (mapped manifold_count (masks_of masks s)) ≡ true)
        → says_of a (mapped-found (masks_of masks s) j manifold_count e).0 j
        ≡ says_of b (mapped-found (masks_of masks s) j manifold_count e).0 j
    same j e =
        let x = mapped-found (masks_of masks s) j manifold_count e in
        sym (says a s x.0 j) ∙ alike.jets s x.0 j l x.1 x.2 ∙ says b s x.0 j

module _ (h : Hall) (next : Next) (a b : Record) (alike : Alike h.masks a b) where
  minor-strings-same : minor_strings string_count h.masks (common a) next.gap next.missed h.strings
      ≡ minor_strings string_count h.masks (common b) next.gap next.missed h.strings
  unfolding minor_strings
  minor-strings-same = each_same _ _ past_string h.strings string_count
      (λ s x l.
      minor-cycle-same (masks_of h.masks s) _ _ _ _ _ _ (alike-string h.masks a b alike s l) (bit s (common a).path)
      (bit s (common b).path) (alike.path s l) next.gap next.missed x)

major-strings-same : (masks : List Masks) (a b : Major) → Alike masks (major a) (major b) → (strings : List StringState)
    → major_strings string_count masks a strings ≡ major_strings string_count masks b strings
unfolding major_strings
major-strings-same masks a b alike strings = each_same _ _ past_string strings string_count
    (λ s x l.
    major-cycle-same (masks_of masks s) _ _ _ _ _ _ (alike-string masks (major a) (major b) alike s l) (bit s a.minor.path)
    (bit s b.minor.path) (alike.path s l) x)

-- the hall with another number, strings and banks
abbrev rebuilt : Hall → ℕ → List StringState → List Bank → Hall
rebuilt h n strings banks = record { n = n; masks = h.masks; strings = strings; banks = banks }

-- a record of the one kind is alike only to one of that kind
taken-same : (h : Hall) (next : Next) (a b : Record) → Alike h.masks a b → taken a next h ≡ taken b next h
unfolding taken
taken-same h next (minor a) (minor b) alike = ap (λ (x : List StringState). rebuilt h next.n x h.banks)
    (minor-strings-same h next (minor a) (minor b) alike)
taken-same h next (minor a) (major b) alike = not-both false alike.kind refl
taken-same h next (major a) (minor b) alike = not-both true refl alike.kind
taken-same h next (major a) (major b) alike =
    ap₂ (λ (x : List StringState) (q : List Quantities). rebuilt h next.n x (weighed_all module_count q h.banks))
    (ap (major_strings string_count h.masks a) (minor-strings-same h next (major a) (major b) alike)
    ∙ major-strings-same h.masks a b alike _)
    alike.quantities

-- a jet that one record names both ways, a record that says the same of mapped jets names too
named-alike : (masks : List Masks) (a b : Record)
    → ((s i j : ℕ) → s < string_count → i < manifold_count → InMask (masks_of masks s) i j → jet_record 0 s i j a ≡ jet_record 0 s i j b)
    → NamedBothWays manifold_count masks a → NamedBothWays manifold_count masks b
named-alike masks a b same x =
    let e = same x.string x.manifold x.jet x.in_hall x.in_string x.stands in
    record {
      string = x.string;
      manifold = x.manifold;
      jet = x.jet;
      in_hall = x.in_hall;
      in_string = x.in_string;
      stands = x.stands;
      inhibit = ap (λ (r : JetRecord). r.inhibit) (sym e) ∙ x.inhibit;
      reenable = ap (λ (r : JetRecord). r.reenable) (sym e) ∙ x.reenable;
    }

verdict-same : (n : ℕ) (masks : List Masks) (a b : Record) → Alike masks a b → verdict_on n masks a ≡ verdict_on n masks b
unfolding verdict_on
verdict-same n masks a b alike =
    ap₂ unless_both_ways
    (same-yes (record_both_ways masks a) (record_both_ways masks b)
    (λ e. (names-exactly masks b).1 (named-alike masks a b alike.jets ((names-exactly masks a).0 e)))
    (λ e.
    (names-exactly masks a).1
    (named-alike masks b a (λ s i j l k stands. sym (alike.jets s i j l k stands)) ((names-exactly masks b).0 e))))
    (ap₂ (λ (w : ℕ) (k : Bool). judged n w k) alike.wire alike.kind)

pub alike-step : (h : Hall) (a b : Record) → Alike h.masks a b → stepped a h ≡ stepped b h
unfolding stepped
alike-step h a b alike =
    ap (λ (v : Verdict). stepped_by v a h) (verdict-same h.n h.masks a b alike) ∙ by (verdict_on h.n h.masks b)
  where
    by : (v : Verdict) → stepped_by v a h ≡ stepped_by v b h
    by (Ok next) = ap (λ (x : Hall). record { answer = Taken; hall = x }) (taken-same h next a b alike)
    by (Err x) = refl
