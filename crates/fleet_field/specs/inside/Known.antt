-- What a search from the goal toward a target knows.
--
-- A walk of n edges from a cell to the goal has (n + estimate of the cell - estimate of the goal) / 2 steps that lead, as seen
-- from the goal, away from the target. So the shortest walk has the fewest of them, and the search goes by their number.
use Rattle.std.specs.Prelude.{◌≡◌, ◌≢◌, ℕ, ◌+◌, ◌-◌, ◌*◌, ◌%◌, ◌<◌, ◌≤◌, ◌⊎◌, List, [], length, slice_index, cond, nat_eq}
use Rattle.std.specs.List.{Contains, sum_by}
use Rattle.fleet_grid.specs.declared.dir.Dir.{Dir}
use Rattle.fleet_grid.specs.Floor.{Floor, IsFloor, IsNeighbour, IsNeighbourIn}
use Rattle.fleet_grid.specs.Walk.{Walks}
use Rattle.fleet_field.specs.declared.target.Target.{Target}
use Rattle.fleet_field.specs.inside.Estimate.{estimate}
use Rattle.fleet_field.specs.inside.Left.{Search}

-- some walk from the cell to the goal has this many steps away from the target, or fewer
pub record IsWithin (m : Floor) (t : Target) (aimed cell k : ℕ) : Type 0 where
  pub walk : List ℕ
  pub leads : Walks (IsNeighbour m) cell walk aimed
  pub short : length walk + estimate t cell ≤ estimate t aimed + 2 * k

-- and none has fewer
pub record IsAt (m : Floor) (t : Target) (aimed cell k : ℕ) : Type 0 where
  pub within : IsWithin m t aimed cell k
  pub least : (walk : List ℕ) → Walks (IsNeighbour m) cell walk aimed → estimate t aimed + 2 * k ≤ length walk + estimate t cell

-- The label of the cells with this many steps away: 3 for none, and 2 and 1 in turn. 0 is the label of a cell to which the search has not
-- come.
abbrev pub label : ℕ → ℕ
label k = k % 2 + 1 + 2 * (1 - k)

abbrev pub is_zero : ℕ → ℕ
is_zero n = cond (nat_eq n 0) 1 0

-- to how many cells the search has not come
abbrev pub zero_count : List ℕ → ℕ
zero_count labels = sum_by is_zero labels

-- The search has come to all cells with fewer steps away than k, and to some with k. Of these a cell may be left in some directions
-- only.
pub record IsLeaving (m : Floor) (t : Target) (aimed k : ℕ) (s : Search) (cell : ℕ) (dirs : List Dir) : Type 0 where
  pub size : length s.labels ≡ length m.letters
  pub right : (v : ℕ) → slice_index s.labels v ≢ 0 → (j : ℕ) × (j ≤ k) × IsAt m t aimed v j × (slice_index s.labels v ≡ label j)
  pub before : (v j : ℕ) → j < k → IsWithin m t aimed v j → slice_index s.labels v ≢ 0
  pub start : (slice_index s.labels aimed ≢ 0) ⊎ Contains s.next aimed
  -- of two neighbours the first has a label and the second has none: the first is still to be left, in this direction at least,
  -- or the second waits
  pub onward : (u v : ℕ) → IsNeighbour m u v → slice_index s.labels u ≢ 0 → slice_index s.labels v ≡ 0
      → Contains s.now u ⊎ (Contains s.next v ⊎ ((IsAt m t aimed u k × (estimate t v ≡ estimate t u + 1) × Contains s.later v)
      ⊎ ((u ≡ cell) × (dir : Dir) × Contains dirs dir × IsNeighbourIn m dir cell v)))
  pub now_right : (v : ℕ) → Contains s.now v → IsFloor m v × IsAt m t aimed v k
  pub next_right : (v : ℕ) → Contains s.next v → IsFloor m v × IsWithin m t aimed v k
  pub later_right : (v : ℕ) → Contains s.later v → IsFloor m v × IsWithin m t aimed v (k + 1)

-- no cell is left in part
abbrev pub IsKnown : Floor → Target → ℕ → ℕ → Search → Type 0
IsKnown m t aimed k s = IsLeaving m t aimed k s 0 []
