-- The map on which a plan is judged.
use Rattle.std.specs.Prelude.{◌≡◌, ℕ}
use Rattle.fleet_map.specs.Grammar.{Map}
use Rattle.fleet_grid.specs.Floor.{Floor, floor_of}

-- the map has these sides and this floor
pub record IsOf (m : Map) (w h : ℕ) (floor : Floor) : Type 0 where
  pub wide : w ≡ m.width
  pub tall : h ≡ m.height
  pub on : floor ≡ floor_of m.height m.width m.cells
