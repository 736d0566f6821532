-- The sizes and limits of 01, as 02, orders 3 and 7, amend them, each under one name; src/size.rt says the same. Assumes nothing.
use Rattle.std.specs.Prelude.{ℕ, ◌-◌, ◌^◌}
use Rattle.bits.specs.Bit.{word_bits}

-- 01, "Jets, strings, manifolds": four strings, 0 to 3
abbrev pub string_count : ℕ
string_count = 4

-- a string has 32 jets: the bits of a word
abbrev pub jet_count : ℕ
jet_count = word_bits

-- 02, order 7: "Eight manifolds a string."
abbrev pub manifold_count : ℕ
manifold_count = 8

-- 02, order 7: "At fresh all eight are remembered as open": a bit for each manifold
abbrev pub all_open : ℕ
all_open = 2 ^ manifold_count - 1

-- two nitrogen banks in each of three modules
abbrev pub module_count : ℕ
module_count = 3

-- a major cycle falls on each 25th
abbrev pub major_every : ℕ
major_every = 25

-- the full cycle number goes up to 4,294,967,295
abbrev pub last_count : ℕ
last_count = 4294967295

-- 01, "Which answer a record gets": d is taken modulo 65,536, and is stale from 32,768 on
abbrev pub wire_span : ℕ
wire_span = 65536

abbrev pub stale_from : ℕ
stale_from = 32768

-- 02, order 3: a temperature word leaks if, as a signed number, it is at most 63
abbrev pub leak_most : ℕ
leak_most = 63

-- out of balance: quantities that differ by more than 16 tenths
abbrev pub most_apart : ℕ
most_apart = 16
