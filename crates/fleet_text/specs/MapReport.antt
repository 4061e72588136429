-- What the program prints of a map.
use Rattle.std.specs.Prelude.{◌≡◌, ℕ, List, ◌++◌, Option, Some, None, MatchOption, codes, decimal}
use Rattle.fleet_grid.specs.Floor.{Floor, IsNeighbour}
use Rattle.fleet_grid.specs.Walk.{IsBridgeless}
use Rattle.fleet_grid.specs.Counts.{floor_count, edge_count}
use Rattle.fleet_bridge.specs.Bridge.{IsFirstBridge}

-- the ends of a bridge
abbrev pub Ends : Type 0
Ends = ℕ × ℕ

-- the ends of the first bridge, or that there is none
abbrev pub bridge_text : Option Ends → List ℕ
bridge_text None = codes "bridgeless"
bridge_text (Some ends) = codes "bridge " ++ decimal ends.0 ++ codes " " ++ decimal ends.1

-- four lines: the sides, how many cells are floor, how many edges there are, and the bridge
abbrev pub map_lines : ℕ → ℕ → ℕ → ℕ → Option Ends → List ℕ
map_lines height width floor edges bridge =
    codes "size " ++ decimal height ++ codes " " ++ decimal width ++ codes "\n"
    ++ codes "floor " ++ decimal floor ++ codes "\n"
    ++ codes "edges " ++ decimal edges ++ codes "\n"
    ++ bridge_text bridge ++ codes "\n"

-- the map's sides, how many floor cells and edges it has, and its first bridge, or that it has none
pub record IsMapReport (m : Floor) (text : List ℕ) : Type 0 where
  pub bridge : Option Ends
  pub first : MatchOption bridge (IsBridgeless (IsNeighbour m)) (λ ends. IsFirstBridge (IsNeighbour m) ends.0 ends.1)
  pub said : text ≡ map_lines m.height m.width (floor_count m) (edge_count m) bridge
