-- What a step gives each robot of what it prefers. `to` has the robots' new cells.
use Rattle.std.specs.Prelude.{◌≡◌, ◌≢◌, ℕ, ◌<◌, ◌≤◌, ◌⊎◌, List, length, slice_index}
use Rattle.fleet_grid.specs.Floor.{Floor}
use Rattle.fleet_grid.specs.Step.{IsConflictFree}
use Rattle.fleet_shield.specs.Wishes.{Wishes, robots, cell_of, preference, Prefers}

-- each robot goes to a cell of its list, or stays
abbrev pub KeepToPreferences : Wishes → List ℕ → Type 0
KeepToPreferences w to = (r : ℕ) → r < robots w → (slice_index to r ≡ cell_of w r) ⊎ Prefers w r (slice_index to r)

-- why the robot does not get the cell
pub data IsBarred (w : Wishes) (to : List ℕ) (r c : ℕ) : Type 0 where
  -- a robot goes there
  taken : (q : ℕ) → q < robots w → slice_index to q ≡ c → IsBarred w to r c
  -- the robot there comes to this one's cell
  swaps : (q : ℕ) → q < robots w → cell_of w q ≡ c → slice_index to q ≡ cell_of w r → IsBarred w to r c
  -- this one stays, and the robot there wanted to come to its cell
  pushed : (q : ℕ) → q < robots w → cell_of w q ≡ c → Prefers w q (cell_of w r) → slice_index to r ≡ cell_of w r → IsBarred w to r c

-- each robot is barred from all that it prefers to its new cell
abbrev pub GetBestLeft : Wishes → List ℕ → Type 0
GetBestLeft w to =
    (r k : ℕ) → r < robots w → k < w.each → ((j : ℕ) → j ≤ k → preference w r j ≢ slice_index to r) → IsBarred w to r (preference w r k)

-- the robot gets its first preference if any step would give it that is free of conflicts and keeps to the preferences
abbrev pub GetsFirst : Floor → Wishes → List ℕ → ℕ → Type 0
GetsFirst m w to r =
    (other : List ℕ) → IsConflictFree m w.from other → KeepToPreferences w other → 0 < w.each
    → slice_index other r ≡ preference w r 0 → slice_index to r ≡ preference w r 0
