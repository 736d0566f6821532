-- One instance of demand 3's cutting and close theorems, over the nights' map: a feed of three major records, cut inside one of them;
-- and the same feed with a repeated and a stale record put in, cut inside both. Assumes nothing.
use Rattle.std.specs.Prelude.{List, [], ◌∷◌, ◌++◌, ℕ, zero, suc, ◌+◌, take, drop, replicate}
use Rattle.feed.specs.Bytes.{in_two, in_four}

-- ---- the records

-- of a string: nothing commanded, no pressure, the drivers that are on, all valves open
abbrev pub sample_bytes : ℕ → List ℕ
sample_bytes driver = replicate 8 0x00 ++ in_four driver ++ (0xFF ∷ [])

-- the wire cycle, no path failed, string 0 with these drivers on, strings 1 to 3 quiet
abbrev pub common_bytes : ℕ → ℕ → List ℕ
common_bytes wire driver = in_two wire ++ (0x00 ∷ sample_bytes driver) ++ sample_bytes 0 ++ sample_bytes 0 ++ sample_bytes 0

-- so many temperature words of 64
unfoldable pub warm_words : ℕ → List ℕ
warm_words zero = []
warm_words (suc n) = 0x00 ∷ 0x40 ∷ warm_words n

-- a major record, 619 bytes: driver of jet 1 of string 0 on, no command; no requests, the quantities are 0
unfoldable pub major_bytes : ℕ → List ℕ
major_bytes wire = 0x52 ∷ 0x4A ∷ common_bytes wire 0x00000002 ++ warm_words 256 ++ replicate 48 0x00 ++ in_two (17562 + wire)

-- the major record 100: no driver is on, and the close bit of manifold 0 of string 0 is to be dropped
unfoldable pub repair_bytes : List ℕ
repair_bytes =
    0x52 ∷ 0x4A ∷ common_bytes 100 0x00000000 ++ warm_words 256 ++ replicate 32 0x00 ++ (0x01 ∷ replicate 15 0x00) ++ in_two 17661

-- a quiet minor record, 59 bytes
unfoldable pub minor_bytes : ℕ → List ℕ
minor_bytes wire = 0x52 ∷ 0x4D ∷ common_bytes wire 0x00000000 ++ in_two (1179 + wire)

-- ---- the feeds

abbrev pub feed : List ℕ
feed = major_bytes 25 ++ (major_bytes 50 ++ major_bytes 75)

-- cut behind the 85th byte of record 50, with an empty piece between
abbrev pub pieces : List (List ℕ)
pieces = (major_bytes 25 ++ take 85 (major_bytes 50)) ∷ [] ∷ (drop 85 (major_bytes 50) ++ major_bytes 75) ∷ []

-- record 25 comes again behind itself, and a minor record with wire cycle 10 behind record 50
abbrev pub longer : List ℕ
longer = major_bytes 25 ++ (major_bytes 25 ++ (major_bytes 50 ++ (minor_bytes 10 ++ major_bytes 75)))

-- cut inside what was put in: behind the 385th byte of the repeated record, and behind the 15th of the stale one
abbrev pub others : List (List ℕ)
others =
    (major_bytes 25 ++ take 385 (major_bytes 25))
    ∷ (drop 385 (major_bytes 25) ++ (major_bytes 50 ++ take 15 (minor_bytes 10)))
    ∷ (drop 15 (minor_bytes 10) ++ major_bytes 75)
    ∷ []
