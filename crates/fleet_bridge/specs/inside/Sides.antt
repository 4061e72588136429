-- A map with the ways of its cells.
use Rattle.std.specs.Prelude.{◌≡◌, ℕ, List}
use Rattle.fleet_grid.specs.Floor.{Floor, HasForm}
use Rattle.fleet_grid.specs.Ways.{AreWays}

-- the map's width, and for each of its cells the ways from it
pub record AreSides (m : Floor) (width : ℕ) (bytes : List ℕ) : Type 0 where
  pub form : HasForm m
  pub wide : width ≡ m.width
  pub ways : AreWays m bytes
