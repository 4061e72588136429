-- Where a letter leads, by the directions on a map.
use Rattle.std.specs.Prelude.{◌≡◌, ℕ, ◌*◌, ◌<◌, ◌≤◌, ◌⊎◌, Option, Some, None, ◌==◌, if◌then◌else◌}
use Rattle.fleet_grid.specs.declared.dir.Dir.{Dir}
use Rattle.fleet_grid.specs.declared.dir.Dir.TheVariants.{North, East, South, West}
use Rattle.fleet_grid.specs.Floor.{IsBeside}

-- the direction of a letter; none for w, with which a robot waits
abbrev pub dir_of : ℕ → Option Dir
dir_of letter =
    if letter == 117 then Some North
    else if letter == 100 then Some South
    else if letter == 108 then Some West
    else if letter == 114 then Some East
    else None

-- the second is next to the first in this direction, on a map of w columns and h rows
abbrev pub IsNext : ℕ → ℕ → Dir → ℕ → ℕ → Type 0
IsNext w h dir cell next = (next < w * h) × IsBeside w dir cell next

-- a letter leads to the next cell in its direction, or off the map if there is none; a robot waits, or stays off the map, where it is
pub record Leads (w h cell letter to : ℕ) : Type 0 where
  pub next : (dir : Dir) → cell < w * h → dir_of letter ≡ Some dir → IsNext w h dir cell to ⊎ ((to ≡ 4294967295) × ((c : ℕ) → IsNext w h dir cell c → ⊥))
  pub waits : dir_of letter ≡ None → to ≡ cell
  pub off : w * h ≤ cell → to ≡ cell
