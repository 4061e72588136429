-- How a compass tells distances: by the steps down the ways that lead nearer.
use Rattle.std.specs.Prelude.{◌≡◌, ℕ, zero, suc, ◌+◌, ◌-◌, ◌*◌, ◌/◌, ◌<◌, ◌≤◌, ◌==◌, ◌↔◌, cond, List, Option, Some, None, length, map, slice_index, slice_index_or}
use Rattle.std.specs.Int.{bit_at}
use Rattle.std.specs.Int.Bits.{bit_and}
use Rattle.std.specs.List.{range_with_len}
use Rattle.fleet_grid.specs.declared.dir.Dir.{Dir}
use Rattle.fleet_grid.specs.declared.dir.Dir.TheVariants.{North, East, South, West}
use Rattle.fleet_grid.specs.Floor.{IsBeside}
use Rattle.fleet_grid.specs.Ways.{IsWay, IsLess}
use Rattle.fleet_field.specs.Field.{Aim}

-- the cell that the first of a cell's ways leads to
abbrev pub next_cell : ℕ → ℕ → ℕ → Option ℕ
next_cell width ways cell =
    cond (bit_at ways 0 == 1) (Some (cell - width)) (cond (bit_at ways 1 == 1) (Some (cell + 1)) (cond (bit_at ways 2 == 1) (Some (cell + width)) (cond (bit_at ways 3 == 1) (Some (cell - 1)) None)))

-- what `f` gives for the cell; `None` where there is no cell
abbrev pub go_on : Option ℕ → (ℕ → Option ℕ) → Option ℕ
go_on (Some cell) f = f cell
go_on None f = None

-- how many steps there are with those down to the goal, where this many are left to try
abbrev pub steps_down : ℕ → List ℕ → ℕ → ℕ → ℕ → ℕ → Option ℕ
steps_down width ways goal zero taken cell = None
steps_down width ways goal (suc left) taken cell =
    cond (cell == goal) (Some taken) (go_on (next_cell width (slice_index ways cell) cell) (λ next. steps_down width ways goal left (taken + 1) next))

-- the distances of the cells
abbrev pub aways_down : ℕ → ℕ → ℕ → List ℕ → List (Option ℕ)
aways_down height width goal ways = map (λ cell. steps_down width ways goal (height * width) 0 cell) (range_with_len 0 (height * width))

-- the ways that lead nearer, in the low half of a cell's byte
abbrev pub low : ℕ → ℕ
low byte = bit_and byte 15

-- the exits of the cells, in the high halves of their bytes
abbrev pub exits_of : List ℕ → List ℕ
exits_of bytes = map (λ byte. byte / 16) bytes

-- what these bytes show
abbrev pub aim_by : ℕ → ℕ → ℕ → List ℕ → Aim
aim_by height width goal bytes = record { goal = goal; away = aways_down height width goal bytes; exits = exits_of bytes }

-- each cell's ways lead to the cells next to it that have less distance, and no other way is among them
pub record IsRight (width : ℕ) (ways : List ℕ) (distance : ℕ → Option ℕ) : Type 0 where
  pub leads : (cell : ℕ) (dir : Dir) → IsWay (slice_index ways cell) dir → (next : ℕ) × IsBeside width dir cell next × IsLess (distance next) (distance cell)
  pub all : (cell : ℕ) (dir : Dir) (next : ℕ) → IsBeside width dir cell next → IsLess (distance next) (distance cell) → IsWay (slice_index ways cell) dir

-- what the bytes of a compass show
pub record IsCompass (height width goal : ℕ) (ways : List ℕ) : Type 0 where
  pub wide : 0 < width
  pub slim : width ≤ 1024
  pub few : height * width ≤ 1048576
  pub size : length ways ≡ height * width
  pub right : IsRight width ways (λ cell. slice_index_or (aways_down height width goal ways) cell None)

-- the second place is nearer to the goal than the first
pub record IsNear (dist : List ℕ) (from to : ℕ) : Type 0 where
  pub reached : slice_index dist from < 4294967294
  pub less : slice_index dist to < slice_index dist from

-- the ways of a place, by the distances of the four places next to it
pub record AreWaysAt (dist : List ℕ) (stride at ways : ℕ) : Type 0 where
  pub north : IsWay ways North ↔ IsNear dist at (at - stride)
  pub east : IsWay ways East ↔ IsNear dist at (at + 1)
  pub south : IsWay ways South ↔ IsNear dist at (at + stride)
  pub west : IsWay ways West ↔ IsNear dist at (at - 1)
