-- The tables of a step, as they are filled and emptied.
use Rattle.std.specs.Prelude.{◌≡◌, ℕ, ◌<◌, Option, Some, List, length, slice_get, slice_index}
use Rattle.fleet_pibt.specs.inside.Entry.{table, IsEmpty}
use Rattle.fleet_pibt.specs.inside.Seating.{Seating}
use Rattle.fleet_pibt.specs.declared.around.Around.{Around}

-- each cell of the list is below the number of cells
abbrev pub HasCells : List ℕ → ℕ → Type 0
HasCells from cells = (r : ℕ) → r < length from → slice_index from r < cells

-- so is each cell north or south of a robot
abbrev pub HasSides : List Around → ℕ → Type 0
HasSides arounds cells = (r : ℕ) (around : Around) → slice_get arounds r ≡ Some around → (around.north < cells) × (around.south < cells)

-- the first `k` robots stand in the table, and nobody else
pub record IsPlaced (from : List ℕ) (standing : List (Option ℕ)) (k : ℕ) : Type 0 where
  pub stands : (c r : ℕ) → table standing c ≡ Some r → (r < k) × (slice_index from r ≡ c)
  pub placed : (r : ℕ) → r < k → table standing (slice_index from r) ≡ Some r

-- the first `k` robots of the table have their cells in the list
abbrev pub IsTaken : List (Option ℕ) → List ℕ → ℕ → Type 0
IsTaken target to k = (r c : ℕ) → r < k → table target r ≡ Some c → slice_index to r ≡ c

-- two tables are inverse to each other
pub record IsMatched (target holder : List (Option ℕ)) : Type 0 where
  pub held : (r c : ℕ) → table target r ≡ Some c → table holder c ≡ Some r
  pub kept : (c r : ℕ) → table holder c ≡ Some r → table target r ≡ Some c

-- nobody stands on a board for this many cells and robots, has decided or has reserved a cell
pub record IsClear (cells robots : ℕ) (target : List (Option ℕ)) (seats : Seating) : Type 0 where
  pub targets : length target ≡ robots
  pub standings : length seats.standing ≡ cells
  pub holders : length seats.holder ≡ cells
  pub no_target : IsEmpty target
  pub nobody : IsEmpty seats.standing
  pub no_holder : IsEmpty seats.holder
