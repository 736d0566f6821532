-- Records put into a feed: demand 3, "put in whole stale or repeated records where the reader holds no bytes". Assumes nothing.
use Rattle.std.specs.Prelude.{◌≡◌, ℕ, ◌≤◌, ◌⊎◌, List, [], ◌++◌}
use Rattle.cycle.specs.declared.map.Masks.{Masks}
use Rattle.feed.specs.Good.{WholeRecord}
use Rattle.feed.specs.Answered.{apart}
use Rattle.feed.specs.Call.{holds}
use Rattle.feed.specs.Calls.{Made, monitor_after, Finished}

-- "2 repeat: d is 0", "1 stale: d is 32,768 to 65,535"
abbrev pub Old : ℕ → List ℕ → Type 0
Old n r = (apart n r ≡ 0) ⊎ (32768 ≤ apart n r)

-- all bytes before settle completely, the reader holds none behind them, and the cycle number is n there
pub record Clear (masks : List Masks) (before : List ℕ) (n : ℕ) : Type 0 where
  pub calls : List Made
  pub finished : Finished masks before calls
  pub empty : holds (monitor_after masks calls) ≡ []
  pub number : (monitor_after masks calls).hall.n ≡ n

-- a feed with any number of such records put in, one after the other
pub data PutIn (masks : List Masks) (feed : List ℕ) : List ℕ → Type 0 where
  same : PutIn masks feed feed
  puts : {longer : List ℕ} (before r after : List ℕ) (n : ℕ) → PutIn masks feed (before ++ after) → Clear masks before n → WholeRecord r
      → Old n r → longer ≡ before ++ (r ++ after) → PutIn masks feed longer
