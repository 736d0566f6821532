-- What the scripts' program does to a state: it hands one in, and after that only calls change it. Assumes nothing.
use Rattle.std.specs.Prelude.{◌≡◌, cond, List, ℕ, eqb, take, drop}
use Rattle.cycle.specs.declared.hall.Hall.{Hall}
use Rattle.feed.specs.Size.{map_length}
use Rattle.feed.specs.Call.{call}
use Rattle.feed.specs.Masks.{started_from}
use Rattle.feed.specs.declared.call.Monitor.{Monitor}
use Rattle.calls.specs.declared.Kind.{Kind}
use Rattle.calls.specs.declared.Kind.TheVariants.{Started, Whole}
use Rattle.calls.specs.Layout.{masks_from, hall_in}

-- the bytes of the masks in the bytes of a hall
abbrev pub masks_given : List ℕ → List ℕ
masks_given l = take map_length (drop masks_from l)

-- 0 says one kind, and any other number the other
abbrev pub kind_of : ℕ → Kind
kind_of n = cond (eqb n 0) Started Whole

-- by kind 0 a started hall with the cycle number that a script gives, by any other the hall that it gives
abbrev pub handed : Kind → Hall → Hall → Hall
handed Started h given = record { n = given.n; masks = h.masks; strings = h.strings; banks = h.banks }
handed Whole h given = given

-- the state that a script gives: its kind, the bytes of its hall, the store and the claimed count
abbrev pub handed_in : Kind → List ℕ → List ℕ → ℕ → Monitor
handed_in kind l held count = record {
  hall = handed kind (started_from (masks_given l)).monitor.hall (hall_in l);
  held = held;
  count = count;
}

-- monitor x is what one call on m leaves, with a piece and an outbox that came as data
pub record OneCall (m x : Monitor) : Type 0 where
  pub piece : List ℕ
  pub outbox : List ℕ
  pub same : x ≡ (call m piece outbox).outcome.monitor
