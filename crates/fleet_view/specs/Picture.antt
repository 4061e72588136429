-- The text of a picture: SVG, in which each cell is 16 wide and 16 high.
use Rattle.std.specs.Prelude.{ℕ, zero, suc, ◌+◌, ◌*◌, ◌/◌, ◌%◌, Bool, true, false, List, [], ◌∷◌, ◌++◌, Option, Some, None, ◌==◌, ◌||◌, if◌then◌else◌, codes, decimal, length, min, max, slice_index}
use Rattle.std.specs.List.{flat_map, list_any}
use Rattle.fleet_map.specs.Grammar.{Map}
use Rattle.fleet_history.specs.declared.history.Arrival.{Arrival}
use Rattle.fleet_history.specs.declared.history.Entry.{Entry}
use Rattle.fleet_history.specs.declared.history.Entry.TheVariants.{Take, Tick, Shut}
use Rattle.fleet_history.specs.declared.history.RobotState.{RobotState}
use Rattle.fleet_trace.specs.Trace.{Trace}
use Rattle.fleet_view.specs.declared.shapes.TheConstants.{SVG_BEGIN, SVG_SIZE, SVG_STYLE, WALLS, WALL, WALLS_END, GOALS, GOALS_PATH, GOAL, GOALS_END, RING, RING_END, TRACK, TRACK_TIME, TRACK_END, STILL, STILL_END, DISC, NUMBER, SHAPE_END, BAR, BAR_END, SVG_END}

-- where a cell lies: its column and its row, 16 times each
abbrev pub point_text : ℕ → ℕ → List ℕ
point_text width cell = decimal (cell % width * 16) ++ codes " " ++ decimal (cell / width * 16)

-- ---- the map

-- whether the letter of a cell is floor: `.`, `G` or `S`
abbrev pub is_floor_letter : ℕ → Bool
is_floor_letter b = (b == 46) || (b == 71) || (b == 83)

-- a square for the cell, unless its letter is floor
abbrev pub wall_text : ℕ → ℕ → ℕ → List ℕ
wall_text width cell letter = if is_floor_letter letter then [] else WALL.now ++ point_text width cell ++ codes "h16v16h-16z"

-- a square for each cell that is no floor, of the letters from this cell on
abbrev pub walls_from : ℕ → ℕ → List ℕ → List ℕ
walls_from width cell [] = []
walls_from width cell (letter ∷ letters) = wall_text width cell letter ++ walls_from width (cell + 1) letters

-- the beginning of the picture, with its sides and its style
abbrev pub head_text : ℕ → ℕ → List ℕ
head_text height width =
    SVG_BEGIN.now ++ decimal (width * 16) ++ codes " " ++ decimal (height * 16) ++ SVG_SIZE.now ++ decimal (width * 16) ++ codes "\" height=\"" ++ decimal (height * 16) ++ SVG_STYLE.now

-- ---- the robots

-- a robot's cells after each tick of the entries
abbrev pub cells_over : {A : Type 0} → ℕ → List (Entry A) → List ℕ
cells_over r [] = []
cells_over r (Tick to arrived farewells ∷ es) = slice_index to r ∷ cells_over r es
cells_over r (Take client order verdict ∷ es) = cells_over r es
cells_over r (Shut robot farewell ∷ es) = cells_over r es

-- a robot's cells after each tick of the traces
abbrev pub cells_in : {A : Type 0} → ℕ → List (Trace A) → List ℕ
cells_in r ts = flat_map (λ t. cells_over r t.history.entries) ts

-- whether the robot is one of those that arrived
abbrev pub arrives : ℕ → List Arrival → Bool
arrives r arrived = list_any (λ a. a.robot == r) arrived

-- the sign of a tick: 1 where the robot arrived in it, or else 0
abbrev pub flag_text : Bool → List ℕ
flag_text true = codes ";1"
flag_text false = codes ";0"

-- a sign for each tick of the entries: whether the robot arrived in it
abbrev pub flags_over : {A : Type 0} → ℕ → List (Entry A) → List ℕ
flags_over r [] = []
flags_over r (Tick to arrived farewells ∷ es) = flag_text (arrives r arrived) ++ flags_over r es
flags_over r (Take client order verdict ∷ es) = flags_over r es
flags_over r (Shut robot farewell ∷ es) = flags_over r es

-- a sign for each tick of the traces: whether the robot arrived in it
abbrev pub flags_in : {A : Type 0} → ℕ → List (Trace A) → List ℕ
flags_in r ts = flat_map (λ t. flags_over r t.history.entries) ts

-- a square on a cell, where the robot arrived
abbrev pub goal_text : ℕ → ℕ → Bool → List ℕ
goal_text width cell true = GOAL.now ++ point_text width cell ++ codes "h12v12h-12z"
goal_text width cell false = []

-- a square for each arrival of a robot in the entries
abbrev pub goals_over : {A : Type 0} → ℕ → ℕ → List (Entry A) → List ℕ
goals_over width r [] = []
goals_over width r (Tick to arrived farewells ∷ es) = goal_text width (slice_index to r) (arrives r arrived) ++ goals_over width r es
goals_over width r (Take client order verdict ∷ es) = goals_over width r es
goals_over width r (Shut robot farewell ∷ es) = goals_over width r es

-- a square for each arrival of a robot in the traces
abbrev pub goals_in : {A : Type 0} → ℕ → ℕ → List (Trace A) → List ℕ
goals_in width r ts = flat_map (λ t. goals_over width r t.history.entries) ts

-- the hue of a robot's colour, in thousandths of a degree
abbrev pub hue_text : ℕ → List ℕ
hue_text r = decimal (r % 30000 * 137508 % 360000)

-- a robot's goals, in its colour
abbrev pub robot_goals_text : {A : Type 0} → ℕ → List (Trace A) → ℕ → List ℕ
robot_goals_text width ts r = GOALS.now ++ hue_text r ++ GOALS_PATH.now ++ goals_in width r ts ++ GOALS_END.now

-- the goals of the robots below this number
abbrev pub goals_below : {A : Type 0} → ℕ → List (Trace A) → ℕ → List ℕ
goals_below width ts zero = []
goals_below width ts (suc r) = goals_below width ts r ++ robot_goals_text width ts r

-- points with semicolons before them
abbrev pub points_text : ℕ → List ℕ → List ℕ
points_text width cells = flat_map (λ cell. codes ";" ++ point_text width cell) cells

-- the values that a robot's shape goes through: where it stands at the opening, then after each tick
abbrev pub values_text : ℕ → ℕ → List ℕ → List ℕ
values_text width start cells = point_text width start ++ points_text width cells

-- a disc in the robot's colour, and its number
abbrev pub disc_text : ℕ → List ℕ
disc_text r = DISC.now ++ hue_text r ++ NUMBER.now ++ decimal r ++ SHAPE_END.now

-- a ring that shows at each arrival, by these signs, over a time in tenths of a second
abbrev pub ring_text : List ℕ → ℕ → List ℕ
ring_text flags time = RING.now ++ flags ++ TRACK_TIME.now ++ decimal time ++ RING_END.now

-- a fifth of a second, 200 ms, for each tick
abbrev pub moving_text : ℕ → ℕ → ℕ → List ℕ → List ℕ → List ℕ
moving_text width r start cells flags =
    TRACK.now ++ values_text width start cells ++ TRACK_TIME.now ++ decimal (2 * max 1 (length cells)) ++ TRACK_END.now ++ ring_text flags (2 * max 1 (length cells)) ++ disc_text r

-- where a robot stands after a number of ticks, or after the last
abbrev pub cell_behind : ℕ → ℕ → List ℕ → ℕ
cell_behind tick start cells = slice_index (start ∷ cells) (min tick (length cells))

-- a robot's shape that stands on the cell
abbrev pub still_text : ℕ → ℕ → ℕ → List ℕ
still_text width r cell = STILL.now ++ point_text width cell ++ STILL_END.now ++ disc_text r

-- a robot's shape: it moves, or stands as after some tick
abbrev pub shape_text : ℕ → Option ℕ → ℕ → ℕ → List ℕ → List ℕ → List ℕ
shape_text width None r start cells flags = moving_text width r start cells flags
shape_text width (Some tick) r start cells flags = still_text width r (cell_behind tick start cells)

-- the shapes of the robots from this number on
abbrev pub shapes_from : {A : Type 0} → ℕ → Option ℕ → List (Trace A) → ℕ → List (RobotState A) → List ℕ
shapes_from width tick ts r [] = []
shapes_from width tick ts r (x ∷ xs) = shape_text width tick r x.cell (cells_in r ts) (flags_in r ts) ++ shapes_from width tick ts (r + 1) xs

-- the robots of the first opening
abbrev pub robots_in : {A : Type 0} → List (Trace A) → List (RobotState A)
robots_in [] = []
robots_in (t ∷ ts) = t.history.opening.robots

-- the walls of the map, as one path
abbrev pub walls_text : Map → List ℕ
walls_text m = WALLS.now ++ walls_from m.width 0 m.cells ++ WALLS_END.now

-- a bar that grows while the robots move
abbrev pub bar_text : {A : Type 0} → Option ℕ → List (Trace A) → List ℕ
bar_text None ts = BAR.now ++ decimal (2 * max 1 (length (cells_in 0 ts))) ++ BAR_END.now
bar_text (Some tick) ts = []

-- the picture of a map and of traces on it: all ticks, one after the other, or what stands after one of them
abbrev pub picture_text : {A : Type 0} → Map → List (Trace A) → Option ℕ → List ℕ
picture_text m ts tick = head_text m.height m.width ++ walls_text m ++ goals_below m.width ts (length (robots_in ts)) ++ shapes_from m.width tick ts 0 (robots_in ts) ++ bar_text tick ts ++ SVG_END.now
