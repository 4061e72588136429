-- What the lines of a plan's text say, as relations: with a head, of a table, and as YAML.
use Rattle.std.specs.Prelude.{◌≡◌, ℕ, ◌+◌, ◌≤◌, Bool, true, not, List, [], ◌∷◌, ◌++◌, filter, length, Some, Ok, slice_get, slice_index_or, codes}
use Rattle.std.specs.List.{list_all}
use Rattle.std.specs.Str.{bytes_eq}
use Rattle.fleet_map.specs.Text.{is_empty, number_of}
use Rattle.fleet_plans.specs.declared.limit.TheConstants.{MOST_PLAN_BYTES}
use Rattle.fleet_plans.specs.Form.{is_header}
use Rattle.fleet_plans.specs.Head.{Head, Opened, blank_head, split_once, with_line}
use Rattle.fleet_plans.specs.Places.{begins, is_number, place_in}
use Rattle.fleet_plans.specs.Scenario.{cell_of, word_at}
use Rattle.fleet_plans.specs.Cells.{cell_at}
use Rattle.fleet_plans.specs.Schedule.{names, column_of, row_of, is_at, schedule_of}
use Rattle.fleet_plans.specs.Table.{Fields, Trails, fields_of, paths_of}
use Rattle.fleet_plans.specs.Tracks.{is_move}
use Rattle.fleet_plans.specs.Valid.{place_at}

-- what lines KEY=VALUE say, one after another
pub data SaysHead (w h : ℕ) : List (List ℕ) → Head → Type 0 where
  none : SaysHead w h [] blank_head
  next : {lines : List (List ℕ)} {d : Head} (line : List ℕ) {all : List (List ℕ)} {e : Head} → SaysHead w h lines d → with_line w h d line ≡ Some e → all ≡ lines ++ line ∷ [] → SaysHead w h all e

-- the head of these lines ends at a line `solution=`, and this is what the lines before it say
pub record IsHead (w h : ℕ) (lines : List (List ℕ)) (o : Opened) : Type 0 where
  pub before : List (List ℕ)
  pub parts : lines ≡ before ++ codes "solution=" ∷ o.lines
  pub says : SaysHead w h before o.head
  pub counted : o.number ≡ length before + 2

-- the lines that are not empty
abbrev pub filled : List (List ℕ) → List (List ℕ)
filled lines = filter (λ line. not (is_empty line)) lines

-- a line TIME:CELLS for each time from 0 on, and empty lines; the first agrees with the head
pub record ArePlaces (w h : ℕ) (head : Head) (lines places : List (List ℕ)) : Type 0 where
  pub some : 1 ≤ length places
  pub begin : begins head (place_at places 0) ≡ true
  pub count : length places ≡ length (filled lines)
  pub each : (t : ℕ) (line : List ℕ) → slice_get (filled lines) t ≡ Some line → place_in w h t (split_once 58 line) ≡ Some (place_at places t)

-- a line of move letters for each robot
pub record AreTracks (robots : ℕ) (lines tracks : List (List ℕ)) : Type 0 where
  pub are : tracks ≡ lines
  pub count : length lines ≡ robots
  pub moves : (r : ℕ) (line : List ℕ) → slice_get lines r ≡ Some line → list_all is_move line ≡ true

-- the path of the robot has this cell at a time
abbrev pub HasAt : List (List ℕ) → ℕ → ℕ → ℕ → Type 0
HasAt paths robot time cell = slice_get (slice_index_or paths robot []) time ≡ Some cell

-- a line of a table puts the robot at a time on this cell
pub record Puts (w h : ℕ) (line : List ℕ) (robot time cell : ℕ) : Type 0 where
  pub words : Fields
  pub are : fields_of line ≡ Some words
  pub numbered : is_number robot (number_of words.agent) ≡ true
  pub timed : is_number time (number_of words.time) ≡ true
  pub there : cell_of w h words.column words.row ≡ Some cell

-- one of these lines does
pub record IsPut (w h : ℕ) (lines : List (List ℕ)) (robot time cell : ℕ) : Type 0 where
  pub at : ℕ
  pub line : List ℕ
  pub is : slice_get lines at ≡ Some line
  pub puts : Puts w h line robot time cell

-- a line puts a robot where its path has it
pub record AgreesWith (w h : ℕ) (paths : List (List ℕ)) (line : List ℕ) : Type 0 where
  pub robot : ℕ
  pub time : ℕ
  pub cell : ℕ
  pub puts : Puts w h line robot time cell
  pub has : HasAt paths robot time cell

-- the header, and lines that put robots where their paths have them; no path has another cell
pub record IsTable (w h : ℕ) (lines paths : List (List ℕ)) : Type 0 where
  pub first : List ℕ
  pub cells : List (List ℕ)
  pub parts : lines ≡ first ∷ cells
  pub headed : is_header first ≡ true
  pub each : (k : ℕ) (line : List ℕ) → slice_get cells k ≡ Some line → AgreesWith w h paths line
  pub all : (robot time cell : ℕ) → HasAt paths robot time cell → IsPut w h cells robot time cell

-- ---- YAML: after the line `schedule:` come the robots by number, each with its line `agentK:` and the three lines of each of its cells

-- a line `schedule:`
abbrev pub is_schedule : List ℕ → Bool
is_schedule line = bytes_eq (word_at line 0) (codes "schedule:")

-- the first three of these lines are those of this cell at a time: `- x: COLUMN`, `y: ROW` and `t: TIME`
pub record IsCell (w h time cell : ℕ) (lines rest : List (List ℕ)) : Type 0 where
  pub x : ℕ
  pub y : ℕ
  pub column : List ℕ
  pub row : List ℕ
  pub last : List ℕ
  pub parts : lines ≡ column ∷ row ∷ last ∷ rest
  pub column_is : column_of column ≡ Some x
  pub row_is : row_of row ≡ Some y
  pub time_is : is_at time last ≡ true
  pub there : cell ≡ cell_at w h x y

-- the first of these lines are those of a path's cells, from this time on
abbrev pub AreCells : ℕ → ℕ → ℕ → List ℕ → List (List ℕ) → List (List ℕ) → Type 0
AreCells w h time [] lines rest = lines ≡ rest
AreCells w h time (cell ∷ path) lines rest = (after : List (List ℕ)) × IsCell w h time cell lines after × AreCells w h (time + 1) path after rest

-- the first of these lines are those of a robot: its name, and all of its path, which has a cell
pub record IsRobot (w h robot : ℕ) (path : List ℕ) (lines rest : List (List ℕ)) : Type 0 where
  pub name : List ℕ
  pub cells : List (List ℕ)
  pub parts : lines ≡ name ∷ cells
  pub named : names robot name ≡ true
  pub some : 1 ≤ length path
  pub are : AreCells w h 0 path cells rest

-- these lines are those of the robots from this one on
abbrev pub AreRobots : ℕ → ℕ → ℕ → List (List ℕ) → List (List ℕ) → Type 0
AreRobots w h robot [] lines = lines ≡ []
AreRobots w h robot (path ∷ paths) lines = (after : List (List ℕ)) × IsRobot w h robot path lines after × AreRobots w h (robot + 1) paths after

-- lines that say nothing, the line `schedule:`, and the lines of the robots
pub record IsSchedule (w h : ℕ) (lines paths : List (List ℕ)) : Type 0 where
  pub before : List (List ℕ)
  pub line : List ℕ
  pub robots : List (List ℕ)
  pub parts : lines ≡ before ++ line ∷ robots
  pub not_yet : list_all (λ l. not (is_schedule l)) before ≡ true
  pub begun : is_schedule line ≡ true
  pub some : 1 ≤ length paths
  pub are : AreRobots w h 0 paths robots

-- there are not more paths, nor longer ones, than the longest text has bytes
pub record AreFew (paths : List (List ℕ)) : Type 0 where
  pub few : length paths ≤ MOST_PLAN_BYTES
  pub short : (robot : ℕ) → length (slice_index_or paths robot []) ≤ MOST_PLAN_BYTES

-- these paths are read of the lines
abbrev pub HasPaths : ℕ → ℕ → List (List ℕ) → List (List ℕ) → Type 0
HasPaths w h lines paths = (t : Trails) × (paths ≡ paths_of t) × (schedule_of w h 1 lines ≡ Ok t)
