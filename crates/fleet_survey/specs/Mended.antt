-- Maps with some of their walls opened.
use Rattle.std.specs.Prelude.{◌≡◌, ◌↔◌, ◌⊎◌, ℕ, ◌<◌, Bool, true, List, length, slice_index}
use Rattle.std.specs.List.{All}
use Rattle.fleet_grid.specs.Floor.{Floor, IsFloor}
use Rattle.fleet_roomy.specs.Unroomy.{IsUnroomyCell, has}
use Rattle.fleet_survey.specs.Survey.{AreCells}
use Rattle.fleet_survey.specs.declared.mend.Mending.{Mending}

-- the cell is no floor
abbrev pub IsWall : Floor → ℕ → Type 0
IsWall m c = IsFloor m c → ⊥

-- the cell is one of the first of a list
abbrev pub IsAmong : List ℕ → ℕ → ℕ → Type 0
IsAmong cells end c = (k : ℕ) × (k < end) × (slice_index cells k ≡ c)

-- the first of these cells were marked, as far as the list has them
pub record AreMarked (cells : List ℕ) (end : ℕ) (before after : List Bool) : Type 0 where
  pub size : length after ≡ length before
  pub marked : (c : ℕ) → (has after c ≡ true) ↔ ((has before c ≡ true) ⊎ (IsAmong cells end c × (c < length before)))

-- the map whose floor cells are those of the other map, and these
pub record IsOpened (m : Floor) (walls : List ℕ) (p : Floor) : Type 0 where
  pub height : p.height ≡ m.height
  pub width : p.width ≡ m.width
  pub floor : (c : ℕ) → IsFloor p c ↔ (IsFloor m c ⊎ (IsAmong walls (length walls) c × (c < length m.letters)))

-- walls of a map, and how many cells are not roomy for n robots once they are open
pub record IsMending (m : Floor) (n : ℕ) (mending : Mending) : Type 0 where
  pub walls : All (IsWall m) mending.walls.items
  pub map : Floor
  pub opened : IsOpened m mending.walls.items map
  pub unroomy : List ℕ
  pub are : AreCells (IsUnroomyCell map n) unroomy
  pub count : mending.unroomy ≡ length unroomy
