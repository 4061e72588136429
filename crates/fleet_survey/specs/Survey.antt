-- What a map offers for a number of robots.
use Rattle.std.specs.Prelude.{◌≡◌, ℕ, ◌^◌, ◌<◌, ◌≤◌, ◌↔◌, Bool, true, false, List, [], ◌∷◌, IfSome}
use Rattle.std.specs.List.{All, AllPairs, Contains}
use Rattle.fleet_grid.specs.Counts.{edge_count, floor_count}
use Rattle.fleet_grid.specs.Floor.{Floor, IsFloor, IsNeighbour}
use Rattle.fleet_grid.specs.Walk.{IsBridgeless, IsRoomy}
use Rattle.fleet_bridge.specs.Bridges.{AreBridges}
use Rattle.fleet_bridge.specs.Roominess.{AreRoomyFor}
use Rattle.fleet_roomy.specs.Unroomy.{IsRoomyCell, IsUnroomyCell}
use Rattle.fleet_survey.specs.DeadEnds.{AreDeadEnds}
use Rattle.fleet_survey.specs.Served.{IsServedLimit}
use Rattle.fleet_survey.specs.declared.standing.Standing.{Standing}
use Rattle.fleet_survey.specs.declared.standing.Standing.TheVariants.{Bridgeless, AllRoomy, SomeRoomy, NoneRoomy}
use Rattle.fleet_survey.specs.declared.survey.Survey.{Survey}

-- the list has the cells of a set below a number, each once, in their order
pub record AreCellsBelow (In : ℕ → Type 0) (k : ℕ) (cells : List ℕ) : Type 0 where
  pub each : (c : ℕ) → Contains cells c ↔ ((c < k) × In c)
  pub order : AllPairs (λ a b. a < b) cells

-- the list has the cells of a set, each once, in their order
pub record AreCells (In : ℕ → Type 0) (cells : List ℕ) : Type 0 where
  pub each : (c : ℕ) → Contains cells c ↔ In c
  pub order : AllPairs (λ a b. a < b) cells

-- the cell alone if the test passes, or else none
abbrev pub cell_if : Bool → ℕ → List ℕ
cell_if true cell = cell ∷ []
cell_if false cell = []

-- the greatest number of robots for which all cells of a list are roomy, where 2^32 - 1 stands for every number
abbrev pub IsGreatestFor : Floor → List ℕ → ℕ → Type 0
IsGreatestFor m cells most = (n : ℕ) → n < 2 ^ 32 → (n ≤ most) ↔ All (IsRoomy (IsNeighbour m) n) cells

-- for which errands the promises are: for all since there is no bridge, for all since all floor cells are roomy, for those to roomy cells, or for none
abbrev pub IsStanding : Floor → ℕ → Standing → Type 0
IsStanding m n Bridgeless = IsBridgeless (IsNeighbour m)
IsStanding m n AllRoomy = (c : ℕ) → IsFloor m c → IsRoomy (IsNeighbour m) n c
IsStanding m n SomeRoomy = ((c : ℕ) × IsRoomyCell m n c) × ((c : ℕ) × IsUnroomyCell m n c)
IsStanding m n NoneRoomy = (c : ℕ) → IsRoomyCell m n c → ⊥

-- the same by the numbers of bridges, and of cells that are roomy and not
abbrev pub IsStandingBy : ℕ → ℕ → ℕ → Standing → Type 0
IsStandingBy bridges roomy unroomy Bridgeless = bridges ≡ 0
IsStandingBy bridges roomy unroomy AllRoomy = unroomy ≡ 0
IsStandingBy bridges roomy unroomy SomeRoomy = (0 < roomy) × (0 < unroomy)
IsStandingBy bridges roomy unroomy NoneRoomy = roomy ≡ 0

-- what is told of a map for n robots
pub record IsSurvey (m : Floor) (n : ℕ) (s : Survey) : Type 0 where
  pub robots : s.robots ≡ n
  pub height : s.height ≡ m.height
  pub width : s.width ≡ m.width
  pub floor : s.floor ≡ floor_count m
  pub edges : s.edges ≡ edge_count m
  pub bridges : AreBridges (IsNeighbour m) s.bridges.items
  pub roomy : AreCells (IsRoomyCell m n) s.roomy.items
  pub unroomy : AreCells (IsUnroomyCell m n) s.unroomy.items
  pub ends : AreDeadEnds m (IsUnroomyCell m n) (IsRoomyCell m n) s.ends.items
  pub served : IfSome s.served (IsServedLimit m)
  pub most : AreRoomyFor m s.most.items
  pub standing : IsStanding m n s.standing
