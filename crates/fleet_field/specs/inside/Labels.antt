-- The search over labels, one byte a place: 0 is not reached, 64 is shut, and 1, 2 and 3 count the levels in threes. Two places side by side
-- are at most one level apart, so that their labels tell which of them is nearer to the goal.
use Rattle.std.specs.Prelude.{◌≡◌, ◌≢◌, ℕ, ◌+◌, ◌-◌, ◌*◌, ◌/◌, ◌%◌, ◌<◌, ◌≤◌, ◌⊎◌, ◌↔◌, ◌==◌, cond, List, [], ◌∷◌, ◌++◌, length, slice_index, slice_set}
use Rattle.fleet_grid.specs.declared.dir.Dir.{Dir}
use Rattle.fleet_grid.specs.declared.dir.Dir.TheVariants.{North, East, South, West}
use Rattle.fleet_grid.specs.Padded.{IsOpen, place}
use Rattle.fleet_grid.specs.Ways.{IsWay}
use Rattle.fleet_field.specs.inside.Search.{IsLink, IsWalled, Search, Keeps, Extends, far_count, AreLevels, SameWalls}

-- the place next to another
abbrev pub toward : ℕ → Dir → ℕ → ℕ
toward stride North v = v - stride
toward stride East v = v + 1
toward stride South v = v + stride
toward stride West v = v - 1

-- the label of a level
abbrev pub label : ℕ → ℕ
label level = level % 3 + 1

-- no open place is next to it, or it is not open itself
abbrev pub IsClosed : ℕ → List ℕ → ℕ → Type 0
IsClosed stride dist v = (u : ℕ) → IsLink dist stride v u → ⊥

-- the label of a place: not reached, reached, or shut
abbrev pub IsLabel : ℕ → List ℕ → ℕ → ℕ → Type 0
IsLabel stride dist v l =
    ((slice_index dist v ≡ 4294967295) × (l ≡ 0))
    ⊎ (((slice_index dist v < 4294967294) × (l ≡ label (slice_index dist v)))
    ⊎ ((l ≡ 64) × IsClosed stride dist v))

-- the labels of these distances
pub record AreLabels (stride : ℕ) (dist labels : List ℕ) : Type 0 where
  pub len : length labels ≡ length dist
  pub each : (v : ℕ) → v < length dist → IsLabel stride dist v (slice_index labels v)

-- the labels before a search, by the cells' ways: 0 for each cell with ways, 64 for each other place
pub record AreUnseen (height width stride : ℕ) (ways labels : List ℕ) : Type 0 where
  pub len : length labels ≡ (height + 2) * stride
  pub cells : (cell : ℕ) → cell < height * width → slice_index ways cell ≢ 0 → slice_index labels (place width stride cell) ≡ 0
  pub each : (v : ℕ) → v < length labels → (slice_index labels v ≡ 64)
      ⊎ ((slice_index labels v ≡ 0) × (cell : ℕ) × (cell < height * width) × (v ≡ place width stride cell) × (slice_index ways cell ≢ 0))

-- the labels before the search from a goal, of a map whose open places are those of `blank`
pub record IsReady (blank : List ℕ) (stride goal : ℕ) (labels : List ℕ) : Type 0 where
  pub small : length blank < 1073741824
  pub far : (v : ℕ) → IsOpen blank v → slice_index blank v ≡ 4294967295
  pub walled : IsWalled blank stride
  pub start : IsOpen blank goal
  pub unseen : AreLabels stride blank labels

-- what a visit makes of the labels and of the next front
abbrev pub IsVisited : List ℕ → List ℕ → ℕ → ℕ → List ℕ → List ℕ → Type 0
IsVisited old front place mark new next =
    ((slice_index old place ≢ 0) × (new ≡ old) × (next ≡ front))
    ⊎ ((slice_index old place ≡ 0) × (new ≡ slice_set old place mark) × (next ≡ front ++ place ∷ []))

-- whatever the distances: a place of a level was left in all directions
abbrev pub IsAround : List ℕ → List ℕ → ℕ → ℕ → ℕ → List ℕ → List ℕ → Type 0
IsAround labels front stride at mark news next =
    (level : ℕ) (dist : List ℕ) → level + 1 < 4294967294 → mark ≡ label (level + 1) → slice_index dist at ≡ level → Search dist stride level (level + 1) front → AreLabels stride dist labels
    → (new : List ℕ) × Extends stride level dist front new next × AreLabels stride new news × ((v : ℕ) → IsLink new stride at v → slice_index new v ≤ level + 1)

-- this many places of the front were left
pub record Leaves (stride level : ℕ) (dist now : List ℕ) (count : ℕ) (new next news : List ℕ) : Type 0 where
  pub extends : Extends stride level dist [] new next
  pub labels : AreLabels stride new news
  pub done : (k : ℕ) → k < count → (v : ℕ) → IsLink new stride (slice_index now k) v → slice_index new v ≤ level + 1

-- a whole level was left
pub record Spreads (stride level : ℕ) (dist new next news : List ℕ) : Type 0 where
  pub search : Search new stride (level + 1) (level + 1) next
  pub keeps : Keeps dist new (level + 1)
  pub count : length next + far_count new ≡ far_count dist
  pub labels : AreLabels stride new news

abbrev pub IsSpread : List ℕ → List ℕ → ℕ → ℕ → List ℕ → List ℕ → Type 0
IsSpread labels now stride mark news next =
    (level : ℕ) (dist : List ℕ) → level + 1 < 4294967294 → mark ≡ label (level + 1) → Search dist stride level level now → AreLabels stride dist labels
    → (new : List ℕ) × Spreads stride level dist new next news

-- the search so far, where `now` is the front
pub record Runs (blank : List ℕ) (stride goal level : ℕ) (now labels : List ℕ) : Type 0 where
  pub dist : List ℕ
  pub search : Search dist stride level level now
  pub walls : SameWalls blank dist
  pub start : (goal < length dist) × (slice_index dist goal ≡ 0)
  pub only : (v : ℕ) → IsOpen dist v → slice_index dist v ≡ 0 → v ≡ goal
  pub count : level + length now + far_count dist ≤ length blank
  pub labelled : AreLabels stride dist labels

-- the labels of the distances to the goal
pub record IsSearched (blank : List ℕ) (stride goal : ℕ) (labels : List ℕ) : Type 0 where
  pub dist : List ℕ
  pub levels : AreLevels dist stride goal
  pub walls : SameWalls blank dist
  pub labelled : AreLabels stride dist labels

-- the label of the level before; of no level where the place has no level
abbrev pub before : ℕ → ℕ
before l = cond (l == 1) 3 (cond (l == 0) 255 (l - 1))

-- the byte of a place: its high half has its exits, and its low half the ways to places of the level before
pub record IsPointed (stride : ℕ) (labels : List ℕ) (at exits byte : ℕ) : Type 0 where
  pub high : byte / 16 ≡ exits
  pub each : (dir : Dir) → IsWay byte dir ↔ (slice_index labels (toward stride dir at) ≡ before (slice_index labels at))

-- the bytes of the first cells, this many
abbrev pub ArePointed : ℕ → ℕ → List ℕ → List ℕ → ℕ → List ℕ → Type 0
ArePointed width stride labels ways count bytes =
    (cell : ℕ) → cell < count → IsPointed stride labels (place width stride cell) (slice_index ways cell) (slice_index bytes cell)
