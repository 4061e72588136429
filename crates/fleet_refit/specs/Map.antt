-- The letters of a site's map.
use Rattle.std.specs.Prelude.{ℕ, List, [], ◌∷◌, if◌then◌else◌, slice_set}
use Rattle.fleet_grid.specs.Floor.{Floor, floor_of}
use Rattle.fleet_refit.specs.declared.seat.Seat.{Seat}
use Rattle.fleet_refit.specs.Site.{SiteView, is_held}

-- the map with that letter for a cell
abbrev pub with_letter : Floor → ℕ → ℕ → Floor
with_letter m cell letter = floor_of m.height m.width (slice_set m.letters cell letter)

-- a robot that is held stands on its cell like a wall (`@`)
abbrev pub walled : {A : Type 0} → List ℕ → List (Seat A) → List ℕ
walled letters [] = letters
walled letters (x ∷ xs) = walled (if is_held x.standing then slice_set letters x.robot.cell 64 else letters) xs

-- the map on which the fleet moves
abbrev pub plan_map : {A : Type 0} → SiteView A → Floor
plan_map s = floor_of s.map.height s.map.width (walled s.map.letters s.seats)
