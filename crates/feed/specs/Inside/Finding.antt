-- What the reader's private functions do, as far as it is not said in Reader: which bytes are passed over or looked at in the piece itself,
-- and how many are copied at once. None of it shows in what a call does. Assumes nothing.
use Rattle.std.specs.Prelude.{◌≡◌, ℕ, suc, ◌+◌, ◌-◌, ◌≤◌, min, Bool, cond, not, ◌&&◌, ◌||◌, Option, None, Some, is_some, List, [], ◌∷◌, ◌++◌, length, take, drop, ◌==◌, nat_le, nat_lt, slice_index, slice_range}
use Rattle.bits.specs.Bit.{every}
use Rattle.feed.specs.Size.{mark_byte, mark_length}
use Rattle.feed.specs.Format.{mark_of, length_marked, look, settles, length_shown, kind_shown}
use Rattle.feed.specs.Reader.{settle, reads, store, Stop}
use Rattle.feed.specs.declared.format.Kind.{Kind}
use Rattle.feed.specs.declared.reader.Found.{Found}

-- of the next n bytes, those that a mark at the front waits for, but the last
abbrev pub calm_of : List ℕ → ℕ → ℕ
calm_of l n =
    cond (nat_lt (length l) mark_length) 0
    (cond (slice_index l 0 == mark_byte) (min n (length_marked (mark_of (slice_index l 1)) - length l - 1)) 0)

-- ---- bytes that cannot begin a mark

abbrev pub all_noise : List ℕ → Bool
all_noise l = every (length l) (λ i. not (slice_index l i == mark_byte))

-- how many are at the front
unfoldable pub noise : List ℕ → ℕ
noise [] = 0
noise (b ∷ l) = let n = noise l in cond (b == mark_byte) 0 (suc n)

-- ---- by way of the store, as long as a byte is held that came before the piece

-- where that ends, when k bytes of the piece are taken already: no such byte is held any more, or as in `reads`
unfoldable pub fills : ℕ → List ℕ → List ℕ → Stop
fills k h [] = record { left = settle h; rest = [] }
fills k h (b ∷ p) =
    let l = settle h in
    let more = fills (suc k) (l ++ (b ∷ [])) p in
    cond (nat_le (length l) k || settles (look l)) (record { left = l; rest = b ∷ p }) more

-- what is found: in the store, or nothing yet, and the bytes held are the last that were taken of the piece
abbrev pub found_by : Bool → ℕ → Stop → Found
found_by held n s =
    cond held
    (record { settled = kind_shown (look s.left); at = None; count = length s.left; used = n - length s.rest })
    (record {
      settled = None;
      at = Some (n - length s.rest - length s.left);
      count = length s.left;
      used = n - length s.rest;
    })

pub record Filled : Type 0 where
  pub found : Found
  pub kept : List ℕ

abbrev pub filled : List ℕ → List ℕ → ℕ → Filled
filled h piece from =
    let s = fills 0 h (drop from piece) in
    record {
      found = found_by (nat_lt (length piece - from - length s.rest) (length s.left)) (length piece) s;
      kept = store s.left;
    }

-- ---- what is found in the end

-- what is held is the bytes from `at` to `end`, with a settled record of this kind at their front, or none
abbrev pub held_from : ℕ → ℕ → Option Kind → Found
held_from at end k = record { settled = k; at = None; count = end - at; used = end }

-- the length of the record found, 0 where there is none
abbrev pub long_of : Found → ℕ
long_of f = length_marked f.settled

-- where a call stops at s: what is left stands in the piece, or in the store
pub record FoundAt (s : Stop) (there : Bool) (piece : List ℕ) (f : Found) (kept : List ℕ) : Type 0 where
  pub settled : f.settled ≡ kind_shown (look s.left)
  pub used : f.used ≡ length piece - length s.rest
  pub place : is_some f.at ≡ there
  pub in_store : f.at ≡ None → (f.count ≡ length s.left) × (kept ≡ store s.left)
  pub in_piece : (at : ℕ) → f.at ≡ Some at
      → (at ≡ f.used - long_of f) × (f.count ≡ 0) × (kept ≡ store [])
      × (s.left ≡ take (long_of f) (drop at piece))
      × (at + long_of f ≤ length piece)

-- the record settled is all that is left
abbrev pub alone : Stop → Bool
alone s = settles (look s.left) && length s.left == length_shown (look s.left)

-- in the piece, of which the bytes from `at` to `taken` are held
abbrev pub reads_on : List ℕ → ℕ → ℕ → Stop
reads_on piece at taken = reads (slice_range piece at taken) (drop taken piece)

abbrev pub Searched : List ℕ → ℕ → ℕ → Found → List ℕ → Type 0
Searched piece at taken = let s = reads_on piece at taken in FoundAt s (alone s) piece

-- the record is all that is left, and all its bytes are of this piece
abbrev pub in_place : List ℕ → List ℕ → Bool
in_place h p = let s = reads h p in alone s && nat_le (length s.left) (length p - length s.rest)

-- what the reader finds where it held h: as `reads` says, in the store or in the piece
abbrev pub Finds : List ℕ → List ℕ → ℕ → Found → List ℕ → Type 0
Finds h piece from = FoundAt (reads h (drop from piece)) (in_place h (drop from piece)) piece
