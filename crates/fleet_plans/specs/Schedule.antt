-- A plan as YAML, as libMultiRobotPlanning writes it: after the line `schedule:` a line `agentK:` for each robot, and then for each cell of its
-- path the three lines `- x: COLUMN`, `y: ROW` and `t: TIME`. Blanks before and after words say nothing.
use Rattle.std.specs.Prelude.{◌≡◌, ℕ, ◌+◌, ◌-◌, Bool, true, false, List, [], ◌∷◌, ◌++◌, length, take, drop, slice_index, Option, Some, None, Result, Ok, Err, nat_lt, nat_le, ◌==◌, ◌&&◌, if◌then◌else◌, codes}
use Rattle.std.specs.Option.{option_map}
use Rattle.std.specs.Str.{bytes_eq}
use Rattle.fleet_map.specs.Text.{number_of, lines_of}
use Rattle.fleet_plans.specs.declared.limit.TheConstants.{MOST_PLAN_BYTES}
use Rattle.fleet_plans.specs.declared.schedule.Part.{Part}
use Rattle.fleet_plans.specs.declared.schedule.Part.TheVariants.{Begin, Name, Column, Row, Cell}
use Rattle.fleet_plans.specs.Cells.{coordinate, cell_at}
use Rattle.fleet_plans.specs.Head.{or_line, and_then}
use Rattle.fleet_plans.specs.Paths.{AreFollowed}
use Rattle.fleet_plans.specs.Places.{is_number}
use Rattle.fleet_plans.specs.Scenario.{word_at}
use Rattle.fleet_plans.specs.Table.{Trails, no_trails, with_cell, paths_of}

-- ---- what a line says

-- whether a word is `agentK:`
abbrev pub is_robot : List ℕ → Bool
is_robot word = nat_le 6 (length word) && bytes_eq (take 5 word) (codes "agent") && (slice_index word (length word - 1) == 58)

-- K of such a word
abbrev pub robot_in : List ℕ → List ℕ
robot_in word = take (length word - 1 - 5) (drop 5 word)

-- whether a line is that of this robot
abbrev pub names : ℕ → List ℕ → Bool
names robot line = is_robot (word_at line 0) && is_number robot (number_of (robot_in (word_at line 0)))

-- the column of a line `- x: COLUMN`
abbrev pub column_of : List ℕ → Option ℕ
column_of line = if bytes_eq (word_at line 0) (codes "-") && bytes_eq (word_at line 1) (codes "x:") then coordinate (word_at line 2) else None

-- the row of a line `y: ROW`
abbrev pub row_of : List ℕ → Option ℕ
row_of line = if bytes_eq (word_at line 0) (codes "y:") then coordinate (word_at line 1) else None

-- whether a line is `t: TIME` with this time
abbrev pub is_at : ℕ → List ℕ → Bool
is_at time line = bytes_eq (word_at line 0) (codes "t:") && is_number time (number_of (word_at line 1))

-- ---- one more line

-- the paths that were read, and what the last line was
pub record Draft : Type 0 where
  pub trails : Trails
  pub part : Part

-- the paths that were read, and what the last line was
abbrev pub drafted : Trails → Part → Draft
drafted t part = record { trails = t; part = part }

-- the paths with the next robot, which has no cell yet
abbrev pub with_name : Trails → List ℕ → Option Draft
with_name t line =
    if names (length t.whole + 1) line && nat_lt (length t.whole) (MOST_PLAN_BYTES - 1) then Some (drafted (record { whole = t.whole ++ t.path ∷ []; path = [] }) Name) else None

-- the paths with this cell of the last robot
abbrev pub with_time : Trails → ℕ → List ℕ → Option Draft
with_time t cell line = if is_at (length t.path) line then option_map (λ more. drafted more Cell) (with_cell t cell) else None

-- the paths with the column of one more cell, or with the next robot
abbrev pub with_next : Trails → List ℕ → Option ℕ → Option Draft
with_next t line (Some column) = Some (drafted t (Column column))
with_next t line None = with_name t line

-- the paths with one more line, by what the last one was; `None` where it may not stand
abbrev pub with_scheduled : ℕ → ℕ → Trails → Part → List ℕ → Option Draft
with_scheduled w h t Begin line = if names 0 line then Some (drafted t Name) else None
with_scheduled w h t Name line = option_map (λ column. drafted t (Column column)) (column_of line)
with_scheduled w h t (Column column) line = option_map (λ row. drafted t (Row (cell_at w h column row))) (row_of line)
with_scheduled w h t (Row cell) line = with_time t cell line
with_scheduled w h t Cell line = with_next t line (column_of line)

-- ---- all lines

-- whether the lines may end after such a line
abbrev pub is_whole : Part → Bool
is_whole Begin = false
is_whole Name = false
is_whole (Column column) = false
is_whole (Row cell) = false
is_whole Cell = true

-- the paths of the lines numbered from this one on, after these; or the number of the first line that may not stand, which is the one after the
-- last where they end too early
unfoldable pub robots_of : ℕ → ℕ → Trails → Part → ℕ → List (List ℕ) → Result Trails ℕ
robots_of w h t part number [] = if is_whole part then Ok t else Err number
robots_of w h t part number (line ∷ lines) = and_then (or_line number (with_scheduled w h t part line)) (λ d. robots_of w h d.trails d.part (number + 1) lines)

-- the paths of the lines after `schedule:`
unfoldable pub schedule_of : ℕ → ℕ → ℕ → List (List ℕ) → Result Trails ℕ
schedule_of w h number [] = Err number
schedule_of w h number (line ∷ lines) = if bytes_eq (word_at line 0) (codes "schedule:") then robots_of w h no_trails Begin (number + 1) lines else schedule_of w h (number + 1) lines

-- the text is that of such a plan, whose robots follow its paths
abbrev pub IsScheduled : ℕ → ℕ → List ℕ → List (List ℕ) → Type 0
IsScheduled w h text places = (t : Trails) × (schedule_of w h 1 (lines_of text) ≡ Ok t) × AreFollowed (paths_of t) places
