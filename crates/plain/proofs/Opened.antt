-- What is opened of a record, jet by jet and manifold by manifold, is what the packed words say. Assumes nothing.
use mathlib.Core.Path.{◌≡◌, refl, ap, ap₂, ◌∙◌}
use mathlib.Core.Bool.{Bool, false}
use mathlib.Core.List.{List}
use Prim.Native.Nat.{ℕ, ◌<◌}
use lib.ListN.{get_or}
use Rattle.bits.specs.Bit.{bit}
use Rattle.cycle.specs.Size.{string_count, jet_count, manifold_count}
use Rattle.cycle.specs.Records.{Record, minor, major, common}
use Rattle.cycle.specs.Views.{jet_record, drop_byte}
use Rattle.cycle.specs.Hall.{sample_of, no_temperatures, no_requests}
use Rattle.cycle.specs.declared.values.Requests.{Requests}
use Rattle.cycle.specs.declared.values.Temperatures.{Temperatures}
use Rattle.feed.proofs.Records.Tables.{table_at}
use Rattle.plain.specs.Jet.{place_of, record_of}
use Rattle.plain.specs.Said.{jet_said, silent, nothing_said, past_string, drops_said, string_said, opened, opened_record}
use Rattle.plain.specs.String.{jet_at, said_at, drop_at}
use Rattle.plain.specs.declared.said.StringSaid.{StringSaid}
use Rattle.plain.specs.declared.string.PlainString.{PlainString}

-- string s's part of it
abbrev pub requests_of : Record → ℕ → Requests
requests_of (minor r) s = no_requests
requests_of (major r) s = get_or r.requests s no_requests

abbrev pub temperatures_of : Record → ℕ → Temperatures
temperatures_of (minor r) s = no_temperatures
temperatures_of (major r) s = get_or r.temperatures s no_temperatures

opened-at : (r : Record) (l : List PlainString) (s : ℕ) → s < string_count
    → get_or (opened_record r l) s silent
    ≡ string_said (bit s (common r).path) (sample_of (common r) s) (requests_of r s) (temperatures_of r s) (get_or l s past_string).jets
unfolding opened
opened-at (minor r) l s b = table_at _ silent string_count s b
opened-at (major r) l s b = table_at _ silent string_count s b

pub said-path : (r : Record) (l : List PlainString) (s : ℕ) → s < string_count
    → (get_or (opened_record r l) s silent).path ≡ bit s (common r).path
unfolding string_said
said-path r l s b = ap (λ (x : StringSaid). x.path) (opened-at r l s b)

pub said-jet : (r : Record) (l : List PlainString) (s j : ℕ) → s < string_count → j < jet_count
    → said_at (get_or (opened_record r l) s silent) j
    ≡ jet_said (sample_of (common r) s) (requests_of r s) (temperatures_of r s) (place_of (jet_at (get_or l s past_string).jets j).place) j
unfolding string_said
said-jet r l s j b k = ap (λ (x : StringSaid). said_at x j) (opened-at r l s b) ∙ table_at _ nothing_said jet_count j k

pub said-drop : (r : Record) (l : List PlainString) (s i : ℕ) → s < string_count → i < manifold_count
    → drop_at (get_or (opened_record r l) s silent) i ≡ bit i (drop_byte s r)
unfolding string_said drops_said
said-drop r l s i b k =
    ap (λ (x : StringSaid). drop_at x i) (opened-at r l s b)
    ∙ table_at (λ n. bit n (requests_of r s).drop) false manifold_count i k
    ∙ by_kind r
  where
    by_kind : (x : Record) → bit i (requests_of x s).drop ≡ bit i (drop_byte s x)
    by_kind (minor x) = refl
    by_kind (major x) = refl

-- what it says of a jet on manifold i is what the packed words say of it
pub heard-same : (n : ℕ) (r : Record) (l : List PlainString) (s i j : ℕ) → s < string_count → i < manifold_count → j < jet_count
    → place_of (jet_at (get_or l s past_string).jets j).place ≡ i
    → record_of n (get_or (opened_record r l) s silent).path (drop_at (get_or (opened_record r l) s silent) i)
    (said_at (get_or (opened_record r l) s silent) j)
    ≡ jet_record n s i j r
heard-same n r l s i j b m k e =
    ap₂ (λ (p d : Bool). record_of n p d (said_at (get_or (opened_record r l) s silent) j)) (said-path r l s b) (said-drop r l s i b m)
    ∙ ap (record_of n (bit s (common r).path) (bit i (drop_byte s r)))
    (said-jet r l s j b k
    ∙ ap (λ (m : ℕ). jet_said (sample_of (common r) s) (requests_of r s) (temperatures_of r s) m j) e)
    ∙ by_kind r
  where
    by_kind : (x : Record)
        → record_of n (bit s (common x).path) (bit i (drop_byte s x))
        (jet_said (sample_of (common x) s) (requests_of x s) (temperatures_of x s) i j)
        ≡ jet_record n s i j x
    by_kind (minor x) = refl
    by_kind (major x) = refl
