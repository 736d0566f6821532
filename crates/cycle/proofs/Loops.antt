-- Loops: one turn, and the end, over plain values. Assumes nothing.
use Rattle.std.proofs.Common.{◌≡◌, ℕ, ◌+◌, ◌<◌, ◌≤◌, Bool, ◌||◌, List, get_or, set, ap, ◌∙◌, add-one, arith}
use lib.Bits.{bit_or}
use Rattle.bits.specs.Bit.{meets, any}
use Rattle.cycle.specs.Size.{manifold_count}
use Rattle.cycle.specs.Each.{each}
use Rattle.cycle.specs.Map.{masks_of, mapped, overlap, refused}
use Rattle.cycle.specs.Hall.{no_requests, string_both_ways, both_ways}
use Rattle.cycle.specs.declared.map.Masks.{Masks}
use Rattle.cycle.specs.declared.values.Requests.{Requests}
use Rattle.cycle.proofs.Each.{each_next}

-- a place k below the end n: the next one is within it
module _ {k n : ℕ} (h : k < n) where
  pub next-within : k + 1 ≤ n
  next-within = omega arith

-- a loop that has come to its end n: what it kept of its place k holds of the end
pub ended : {A : Type 0} (f : ℕ → A) {x : A} {k n : ℕ} → (k ≤ n) × (x ≡ f k) → n ≤ k → x ≡ f n
ended f {k = k} {n = n} i h = let e : k ≡ n = omega (arith, i.0) in i.1 ∙ ap f e

-- a turn that stores x at place n
pub turned : {A : Type 0} (f : ℕ → A → A) (d : A) (l : List A) (n : ℕ) (m : List A) (x : A) → m ≡ each n f d l → x ≡ f n (get_or m n d)
    → set m n x ≡ each (n + 1) f d l
turned f d l n m x e q = rw add-one (each_next f d l n m x e q)

-- what a rule gives at the value that was read is what it gives at the one asked for
pub as-asked : {A B : Type 0} (f : A → B) {read asked : A} {r : B} → r ≡ f read → read ≡ asked → r ≡ f asked
as-asked f e p = e ∙ ap f p

-- ---- the map's

module _ (words : List ℕ) (i : ℕ) where
  pub mapped-turn : {seen : ℕ} → seen ≡ mapped i words → bit_or seen (get_or words i 0) ≡ mapped (i + 1) words
  unfolding mapped
  mapped-turn e = rw (add-one, e)

  pub overlap-turn : {seen : ℕ} {found b : Bool} → seen ≡ mapped i words → found ≡ overlap i words → b ≡ meets (get_or words i 0) seen
      → (found || b) ≡ overlap (i + 1) words
  unfolding overlap
  overlap-turn e f q = rw (add-one, q, e, f)

pub refused-turn : (masks : List Masks) (s : ℕ) {found b : Bool} → found ≡ refused s masks
    → b ≡ overlap manifold_count (masks_of masks s) → (found || b) ≡ refused (s + 1) masks
unfolding refused any
refused-turn masks s f q = rw (add-one, q, f)

pub both-ways-turn : (masks : List Masks) (requests : List Requests) (s : ℕ) {found b : Bool} → found ≡ both_ways s masks requests
    → b ≡ string_both_ways (masks_of masks s) (get_or requests s no_requests) → (found || b) ≡ both_ways (s + 1) masks requests
unfolding both_ways any
both-ways-turn masks requests s f q = rw (add-one, q, f)
