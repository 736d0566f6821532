-- Which record stands first among bytes, by the reader's rule: what a call settles of what it holds and is handed. Assumes nothing.
use Rattle.std.specs.Prelude.{ℕ, ◌-◌, Bool, List, length, take, drop}
use Rattle.cycle.specs.Records.{Record}
use Rattle.feed.specs.Format.{look, settles, length_shown, kind_shown}
use Rattle.feed.specs.Reader.{settle}
use Rattle.feed.specs.Values.{values_of}
use Rattle.feed.specs.declared.reader.Front.{Front}

-- is there one, when the reader has looked until it drops no more
abbrev pub has_record : List ℕ → Bool
has_record l = settles (look (settle l))

-- its length, 0 where there is none
abbrev pub record_length : List ℕ → ℕ
record_length l = length_shown (look (settle l))

-- its bytes, none where there is none
abbrev pub record_in : List ℕ → List ℕ
record_in l = take (record_length l) (settle l)

-- the bytes behind it
abbrev pub behind_in : List ℕ → List ℕ
behind_in l = drop (record_length l) (settle l)

-- its values
abbrev pub values_in : List ℕ → Record
values_in l = values_of (record_in l)

-- where it stands: the first byte that is not dropped, and its kind
abbrev pub front_of : List ℕ → Front
front_of l = record { at = length l - length (settle l); settled = kind_shown (look (settle l)) }
