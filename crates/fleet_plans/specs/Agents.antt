-- A plan as a line `Agent K: (R,C)->(R,C)->..` for each robot, with R the row and C the column, as planners of the CBS family
-- write paths. Line k is that of robot k; after the last cell an arrow may stand.
use Rattle.std.specs.Prelude.{◌≡◌, ℕ, ◌+◌, ◌-◌, ◌<◌, ◌≤◌, ◌⊎◌, Bool, List, [], ◌∷◌, length, take, drop, slice_index, slice_index_or, Option, Some, None, ◌==◌, if◌then◌else◌, codes}
use Rattle.std.specs.List.{slice_split}
use Rattle.std.specs.Option.{option_map, option_and_then}
use Rattle.std.specs.Str.{bytes_eq}
use Rattle.fleet_map.specs.Text.{number_of, lines_of, without_empty_last}
use Rattle.fleet_plans.specs.declared.fault.PlanTextFault.{PlanTextFault}
use Rattle.fleet_plans.specs.declared.fault.PlanTextFault.TheVariants.{Line, NoMemory}
use Rattle.fleet_plans.specs.Cells.{column_in, row_in, cell_at}
use Rattle.fleet_plans.specs.Head.{split_once}
use Rattle.fleet_plans.specs.Places.{is_number}
use Rattle.fleet_plans.specs.Form.{is_agent}
use Rattle.fleet_plans.specs.Paths.{AreFollowed}

-- whether the byte is a dash
abbrev pub is_dash : ℕ → Bool
is_dash b = b == 45

-- the parts between dashes
abbrev pub pieces : List ℕ → List (List ℕ)
pieces text = without_empty_last (slice_split is_dash text)

-- the cell of two parts (R and C)
abbrev pub cell_in : ℕ → ℕ → Option (List ℕ × List ℕ) → Option ℕ
cell_in w h None = None
cell_in w h (Some p) = option_and_then (λ row. option_map (λ column. cell_at w h column row) (row_in p.1)) (column_in p.0)

-- the cell (R,C) after this byte
abbrev pub led_cell : ℕ → ℕ → ℕ → List ℕ → Option ℕ
led_cell w h lead [] = None
led_cell w h lead (b ∷ bs) = if b == lead then cell_in w h (split_once 44 bs) else None

-- a cell for each part; the first stands after this byte, the others after `>`
abbrev pub cells_led : ℕ → ℕ → ℕ → List (List ℕ) → Option (List ℕ)
cells_led w h lead [] = Some []
cells_led w h lead (part ∷ parts) = option_and_then (λ c. option_map (λ cs. c ∷ cs) (cells_led w h 62 parts)) (led_cell w h lead part)

-- the text without the arrow at its end
abbrev pub without_arrow : List ℕ → List ℕ
without_arrow text = if bytes_eq (drop (length text - 2) text) (codes "->") then take (length text - 2) text else text

-- the cells of a text ` (R,C)->(R,C)`, which ends with a bracket
abbrev pub path_of : ℕ → ℕ → List ℕ → Option (List ℕ)
path_of w h text = if slice_index text (length text - 1) == 41 then cells_led w h 32 (pieces text) else None

-- what stands after `Agent `
abbrev pub after_agent : List ℕ → Option (List ℕ)
after_agent line = if is_agent line then Some (drop 6 line) else None

-- the cells of a line, if the number before its colon is the robot's
abbrev pub numbered_path : ℕ → ℕ → ℕ → Option (List ℕ × List ℕ) → Option (List ℕ)
numbered_path w h robot None = None
numbered_path w h robot (Some p) = if is_number robot (number_of p.0) then path_of w h (without_arrow p.1) else None

-- the cells of the robot's line
abbrev pub agent_in : ℕ → ℕ → ℕ → List ℕ → Option (List ℕ)
agent_in w h robot line = numbered_path w h robot (option_and_then (split_once 58) (after_agent line))

-- the first n lines have these paths
pub record AreAgents (w h : ℕ) (lines : List (List ℕ)) (n : ℕ) (paths : List (List ℕ)) : Type 0 where
  pub each_one : length paths ≡ n
  pub path : (k : ℕ) → k < n → agent_in w h k (slice_index_or lines k []) ≡ Some (slice_index_or paths k [])

-- this line is the first that is not its robot's; in a text without lines that of robot 0 is missing
pub record IsAgentsFault (w h : ℕ) (lines : List (List ℕ)) (line : ℕ) : Type 0 where
  pub robot : ℕ
  pub line_is : line ≡ robot + 1
  pub inside : (robot ≡ 0) ⊎ (robot < length lines)
  pub paths : List (List ℕ)
  pub before : AreAgents w h lines robot paths
  pub none : agent_in w h robot (slice_index_or lines robot []) ≡ None

-- why a text is no such plan, unless memory ran out
abbrev pub IsNoAgents : ℕ → ℕ → List ℕ → PlanTextFault → Type 0
IsNoAgents w h text (Line line) = IsAgentsFault w h (lines_of text) line
IsNoAgents w h text NoMemory = Unit {0}

-- the text is that of such a plan: it has a line, and all lines have paths, which the robots follow
abbrev pub IsAgentsPlan : ℕ → ℕ → List ℕ → List (List ℕ) → Type 0
IsAgentsPlan w h text places = (paths : List (List ℕ)) × (1 ≤ length paths) × AreAgents w h (lines_of text) (length (lines_of text)) paths × AreFollowed paths places
