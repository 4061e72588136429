-- The form of a map: its sides in their range, and as many letters as cells.
use Rattle.std.specs.Prelude.{◌≡◌, ◌*◌, ◌≤◌, length}
use Rattle.fleet_map.specs.Grammar.{Map}

-- both sides are from 1 to 1,024, and there is a letter for each cell
pub record HasSides (m : Map) : Type 0 where
  pub tall : 1 ≤ m.height
  pub low : m.height ≤ 1024
  pub wide : 1 ≤ m.width
  pub slim : m.width ≤ 1024
  pub covered : length m.cells ≡ m.height * m.width
