-- A plan as a table: the line `agent,time,row,column`, and a line of these numbers for each cell of each robot's path, robot by robot, time
-- by time.
use Rattle.std.specs.Prelude.{◌≡◌, ℕ, ◌+◌, ◌-◌, List, [], ◌∷◌, ◌++◌, ◌<◌, ◌≤◌, length, slice_index_or, Option, Some, None, Result, Ok, Err, nat_lt, ◌&&◌, if◌then◌else◌}
use Rattle.std.specs.Option.{option_and_then}
use Rattle.fleet_map.specs.Text.{number_of, lines_of}
use Rattle.fleet_plans.specs.declared.limit.TheConstants.{MOST_PLAN_BYTES}
use Rattle.fleet_plans.specs.declared.table.Fields.{Fields as Lent}
use Rattle.fleet_plans.specs.declared.table.Trails.{Trails as Owned}
use Rattle.fleet_plans.specs.Form.{is_header}
use Rattle.fleet_plans.specs.Head.{split_once, or_line, and_then}
use Rattle.fleet_plans.specs.Paths.{AreFollowed}
use Rattle.fleet_plans.specs.Places.{is_number}
use Rattle.fleet_plans.specs.Scenario.{cell_of}

-- the words of a line, between commas
pub record Fields : Type 0 where
  pub agent : List ℕ
  pub time : List ℕ
  pub row : List ℕ
  pub column : List ℕ

-- the words of a line of the program, without where they lie in memory
abbrev pub fields : Lent → Fields
fields f = record { agent = f.agent.now; time = f.time.now; row = f.row.now; column = f.column.now }

-- the words of a line with this agent and time, if a row and a column follow
abbrev pub with_time : List ℕ → List ℕ → Option (List ℕ × List ℕ) → Option Fields
with_time agent time None = None
with_time agent time (Some r) = Some (record { agent = agent; time = time; row = r.0; column = r.1 })

-- the words of a line with this agent, if a time, a row and a column follow
abbrev pub with_agent : List ℕ → Option (List ℕ × List ℕ) → Option Fields
with_agent agent None = None
with_agent agent (Some q) = with_time agent q.0 (split_once 44 q.1)

-- the words of a line, by what stands before its first comma and after it
abbrev pub fields_by : Option (List ℕ × List ℕ) → Option Fields
fields_by None = None
fields_by (Some p) = with_agent p.0 (split_once 44 p.1)

-- the words of a line; `None` where it has fewer than three commas
abbrev pub fields_of : List ℕ → Option Fields
fields_of line = fields_by (split_once 44 line)

-- the paths that were read: those of the robots before the last one, and that of the last one
pub record Trails : Type 0 where
  pub whole : List (List ℕ)
  pub path : List ℕ

-- the paths that the program read, without its memory
abbrev pub trails : Owned → Trails
trails t = record { whole = t.whole.items; path = t.path.items }

-- the paths before the first line
abbrev pub no_trails : Trails
no_trails = record { whole = []; path = [] }

-- there are not more robots than a text can have, nor longer paths
pub record AreShort (t : Trails) : Type 0 where
  pub few : length t.whole < MOST_PLAN_BYTES
  pub last : length t.path ≤ MOST_PLAN_BYTES
  pub each : (r : ℕ) → length (slice_index_or t.whole r []) ≤ MOST_PLAN_BYTES

-- the next cell of the last robot; no text has more than this many
abbrev pub with_cell : Trails → ℕ → Option Trails
with_cell t cell = if nat_lt (length t.path) MOST_PLAN_BYTES then Some (record { whole = t.whole; path = t.path ++ cell ∷ [] }) else None

-- the first cell of the next robot
abbrev pub with_robot : Trails → ℕ → Option Trails
with_robot t cell = if nat_lt 0 (length t.path) && nat_lt (length t.whole) (MOST_PLAN_BYTES - 1) then Some (record { whole = t.whole ++ t.path ∷ []; path = cell ∷ [] }) else None

-- a cell of this robot at this time
abbrev pub with_numbers : Trails → Option ℕ → Option ℕ → ℕ → Option Trails
with_numbers t agent time cell =
    if is_number (length t.whole) agent && is_number (length t.path) time then with_cell t cell
    else if is_number (length t.whole + 1) agent && is_number 0 time then with_robot t cell
    else None

-- the paths with the cell that the words of a line say
abbrev pub with_fields : ℕ → ℕ → Trails → Fields → Option Trails
with_fields w h t f = option_and_then (with_numbers t (number_of f.agent) (number_of f.time)) (cell_of w h f.column f.row)

-- the paths with one more line
abbrev pub with_row : ℕ → ℕ → Trails → List ℕ → Option Trails
with_row w h t line = option_and_then (with_fields w h t) (fields_of line)

-- the paths of the lines numbered from this one on, after these; or the number of the first line that says no such cell
unfoldable pub trails_of : ℕ → ℕ → Trails → ℕ → List (List ℕ) → Result Trails ℕ
trails_of w h t number [] = if nat_lt 0 (length t.path) then Ok t else Err number
trails_of w h t number (line ∷ lines) = and_then (or_line number (with_row w h t line)) (λ more. trails_of w h more (number + 1) lines)

-- the paths of a table's lines, or the number of the first line that may not stand
abbrev pub table_of : ℕ → ℕ → List (List ℕ) → Result Trails ℕ
table_of w h [] = Err 1
table_of w h (line ∷ lines) = if is_header line then trails_of w h no_trails 2 lines else Err 1

-- all paths
abbrev pub paths_of : Trails → List (List ℕ)
paths_of t = t.whole ++ t.path ∷ []

-- the text is that of such a plan, whose robots follow its paths
abbrev pub IsTablePlan : ℕ → ℕ → List ℕ → List (List ℕ) → Type 0
IsTablePlan w h text places = (t : Trails) × (table_of w h (lines_of text) ≡ Ok t) × AreFollowed (paths_of t) places
