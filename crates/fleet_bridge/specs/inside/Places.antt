-- A map's padded form and its cells: what lies at a place, and which edges squares of floor clear.
use Rattle.std.specs.Prelude.{◌≡◌, ℕ, ◌+◌, ◌-◌, ◌<◌, ◌≤◌, List, length}
use Rattle.fleet_grid.specs.Floor.{Floor, HasForm, IsFloor, IsNeighbourIn}
use Rattle.fleet_grid.specs.declared.dir.Dir.{Dir}
use Rattle.fleet_grid.specs.declared.dir.Dir.TheVariants.{North, East, South, West}
use Rattle.fleet_grid.specs.Padded.{IsOpen, IsPadded, place}
use Rattle.fleet_grid.specs.Walk.{AreJoined}
use Rattle.fleet_bridge.specs.inside.First.{HasNoneBeside, HasNone}
use Rattle.fleet_bridge.specs.inside.Search.{NearWithout}
use Rattle.fleet_bridge.specs.declared.places.Spot.{Spot}

-- the map's padded form
pub record IsLaidOut (m : Floor) (width stride : ℕ) (list : List ℕ) : Type 0 where
  pub form : HasForm m
  pub wide : width ≡ m.width
  pub padded : IsPadded m stride list

-- a floor cell and its place
pub record IsSpot (m : Floor) (stride : ℕ) (spot : Spot) : Type 0 where
  pub floor : IsFloor m spot.cell
  pub at : spot.place ≡ place m.width stride spot.cell

-- the place on that side
abbrev pub place_across : ℕ → ℕ → Dir → ℕ
place_across stride at North = at - stride
place_across stride at East = at + 1
place_across stride at South = at + stride
place_across stride at West = at - 1

-- one step from a cell in that direction
pub record IsStep (m : Floor) (stride : ℕ) (dir : Dir) (from : ℕ) (next : Spot) : Type 0 where
  pub near : IsNeighbourIn m dir from next.cell
  pub spot : IsSpot m stride next

-- floor at the place, at the next one, and below both
pub record IsSquare (list : List ℕ) (stride v : ℕ) : Type 0 where
  pub first : IsOpen list v
  pub east : IsOpen list (v + 1)
  pub south : IsOpen list (v + stride)
  pub last : IsOpen list (v + stride + 1)

-- the places around it, and a row and one more after it, are in the list
pub record IsInside (list : List ℕ) (stride v : ℕ) : Type 0 where
  pub row : stride ≤ v
  pub before : 1 ≤ v
  pub behind : v + stride + 1 < length list

-- no bridge leads in that direction from the cell at that place
abbrev pub HasNoneBesideAt : Floor → ℕ → ℕ → Dir → Type 0
HasNoneBesideAt m stride v dir = (c : ℕ) → v ≡ place m.width stride c → HasNoneBeside m c dir

-- no bridge has the cell at that place as its lower end
abbrev pub HasNoneAt : Floor → ℕ → ℕ → Type 0
HasNoneAt m stride v = (c : ℕ) → v ≡ place m.width stride c → HasNone m c

-- a walk came from `to` so far without crossing the edge from `from` to `to`
pub record IsOnWay (m : Floor) (stride from to : ℕ) (spot : Spot) : Type 0 where
  pub here : IsSpot m stride spot
  pub joined : AreJoined (NearWithout m from to) to spot.cell
