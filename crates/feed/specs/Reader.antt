-- 01, "The feed": the reader, over lists of bytes. Assumes nothing.
use Rattle.std.specs.Prelude.{ℕ, ◌-◌, cond, List, [], ◌∷◌, ◌++◌, length, take, replicate, nat_lt}
use Rattle.feed.specs.Size.{store_length, most_held}
use Rattle.feed.specs.Format.{look, settles}
use Rattle.feed.specs.declared.format.Look.{Look}
use Rattle.feed.specs.declared.format.Look.TheVariants.{Drops, Waits, Loses, Settles}

-- by what the oldest byte is: it goes and the rest is looked at, or all stays
abbrev pub kept_by : Look → List ℕ → List ℕ → List ℕ
kept_by Drops here rest = rest
kept_by Waits here rest = here
kept_by Loses here rest = rest
kept_by (Settles k) here rest = here

-- what is left of the held bytes when the reader has looked until it drops no more
unfoldable pub settle : List ℕ → List ℕ
settle [] = []
settle (a ∷ l) = let rest = settle l in kept_by (look (a ∷ l)) (a ∷ l) rest

-- where a call stops: the bytes then held, which begin with the settled record if there is one, and the rest of the piece
pub record Stop : Type 0 where
  pub left : List ℕ
  pub rest : List ℕ

-- "It first settles what it already holds, then takes bytes one by one, and stops at the first record settled or at the end of the piece."
unfoldable pub reads : List ℕ → List ℕ → Stop
reads h [] = record { left = settle h; rest = [] }
reads h (b ∷ p) =
    let l = settle h in
    let more = reads (l ++ (b ∷ [])) p in
    cond (settles (look l)) (record { left = l; rest = b ∷ p }) more

-- "The places of the store after the held bytes are 0."
abbrev pub store : List ℕ → List ℕ
store l = l ++ replicate (store_length - length l) 0

-- 02, order 6: "a state handed in is read as holding none only if it claims more than 618"
abbrev pub held_count : ℕ → ℕ
held_count count = cond (nat_lt most_held count) 0 count

abbrev pub held_of : ℕ → List ℕ → List ℕ
held_of count bytes = take (held_count count) bytes
