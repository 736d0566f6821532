-- The values of a record, of either kind. Assumes nothing.
use Rattle.std.specs.Prelude.{Bool, true, false}
use Rattle.cycle.specs.declared.values.Minor.{Minor}
use Rattle.cycle.specs.declared.values.Major.{Major}

pub data Record : Type 0 where
  minor : Minor → Record
  major : Major → Record

-- is the record of the major kind
abbrev pub major_kind : Record → Bool
major_kind (minor r) = false
major_kind (major r) = true

-- what a major record has in common with a minor one: wire cycle, path byte and samples
abbrev pub common : Record → Minor
common (minor r) = r
common (major r) = r.minor
