-- Where robots stand, what each prefers, and in which order they are planned.
use Rattle.std.specs.Prelude.{◌≡◌, ◌≢◌, ℕ, ◌+◌, ◌*◌, ◌<◌, ◌⊎◌, List, length, slice_index}
use Rattle.fleet_grid.specs.Floor.{Floor, IsNeighbour}
use Rattle.fleet_grid.specs.Step.{IsPlacement}
use Rattle.fleet_shield.specs.declared.preferences.Preferences.{Preferences}

-- the robots' cells, and their preferences as one list, with `each` cells for each robot
pub record Wishes : Type 0 where
  pub from : List ℕ
  pub each : ℕ
  pub cells : List ℕ

-- the wishes of robots on these cells with these preferences
abbrev pub wishes : List ℕ → Preferences → Wishes
wishes from p = record { from = from; each = p.each; cells = p.cells.now }

-- how many robots there are
abbrev pub robots : Wishes → ℕ
robots w = length w.from

-- the robot's cell
abbrev pub cell_of : Wishes → ℕ → ℕ
cell_of w robot = slice_index w.from robot

-- a robot's preference at a place of its list
abbrev pub preference : Wishes → ℕ → ℕ → ℕ
preference w robot place = slice_index w.cells (robot * w.each + place)

-- the cell stands in the robot's list
abbrev pub Prefers : Wishes → ℕ → ℕ → Type 0
Prefers w robot cell = (place : ℕ) × (place < w.each) × (preference w robot place ≡ cell)

-- the robot's preference at the place is its own cell or a neighbour of it
abbrev pub IsNear : Floor → Wishes → ℕ → ℕ → Type 0
IsNear m w robot place = (preference w robot place ≡ cell_of w robot) ⊎ IsNeighbour m (cell_of w robot) (preference w robot place)

-- no two of the first items are the same
abbrev pub AreApart : List ℕ → ℕ → Type 0
AreApart xs n = (i j : ℕ) → i < j → j < n → slice_index xs i ≢ slice_index xs j

-- the order names each robot once: as many robots as there are, no two the same
pub record IsOrder (order : List ℕ) (n : ℕ) : Type 0 where
  pub same_length : length order ≡ n
  pub known : (k : ℕ) → k < length order → slice_index order k < length order
  pub apart : AreApart order (length order)

-- a step can be made
pub record AreSound (m : Floor) (order : List ℕ) (w : Wishes) : Type 0 where
  pub placed : IsPlacement m w.from
  pub listed : IsOrder order (robots w)
  pub lists : length w.cells ≡ robots w * w.each
  pub near : (robot place : ℕ) → robot < robots w → place < w.each → IsNear m w robot place
