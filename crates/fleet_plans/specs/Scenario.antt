-- The starts and goals of robots in a scenario of the MAPF benchmarks (`.scen`): a line that begins with `version`, and then a line for
-- each robot. Its words are the bucket, the map's file, the map's width and height, the column and the row of the start, those of the goal, and a distance.
use Rattle.std.specs.Prelude.{ℕ, ◌+◌, Bool, List, [], ◌∷◌, ◌++◌, slice_index_or, Option, None, Result, Ok, Err, ◌&&◌, if◌then◌else◌, codes}
use Rattle.std.specs.Option.{option_map, option_and_then}
use Rattle.std.specs.Str.{bytes_eq}
use Rattle.fleet_map.specs.Text.{number_of, words_of}
use Rattle.fleet_plans.specs.declared.scenario.Trip.{Trip}
use Rattle.fleet_plans.specs.Cells.{coordinate, cell_at}
use Rattle.fleet_plans.specs.Head.{or_line, and_then}
use Rattle.fleet_plans.specs.Places.{is_number}

-- the word at this place of a line, counted from 0
abbrev pub word_at : List ℕ → ℕ → List ℕ
word_at line place = slice_index_or (words_of line) place []

-- the cell in the column and the row that two words say
abbrev pub cell_of : ℕ → ℕ → List ℕ → List ℕ → Option ℕ
cell_of w h x y = option_and_then (λ column. option_map (λ row. cell_at w h column row) (coordinate y)) (coordinate x)

-- whether a line is one of this map
abbrev pub is_of_map : ℕ → ℕ → List ℕ → Bool
is_of_map w h line = is_number w (number_of (word_at line 2)) && is_number h (number_of (word_at line 3))

-- the cell at which the robot of a line starts
abbrev pub start_in : ℕ → ℕ → List ℕ → Option ℕ
start_in w h line = cell_of w h (word_at line 4) (word_at line 5)

-- the cell to which the robot of a line goes
abbrev pub goal_in : ℕ → ℕ → List ℕ → Option ℕ
goal_in w h line = cell_of w h (word_at line 6) (word_at line 7)

-- the start and the goal of a line
abbrev pub trip_in : ℕ → ℕ → List ℕ → Option Trip
trip_in w h line =
    if is_of_map w h line
    then option_and_then (λ start. option_map (λ goal. record { start = start; goal = goal }) (goal_in w h line)) (start_in w h line)
    else None

-- the robots' starts and goals
pub record Trips : Type 0 where
  pub starts : List ℕ
  pub goals : List ℕ

-- the starts and goals with those of one more robot
abbrev pub with_trip : Trips → Trip → Trips
with_trip trips trip = record { starts = trips.starts ++ trip.start ∷ []; goals = trips.goals ++ trip.goal ∷ [] }

-- the starts and goals of the lines numbered from this one on, after these; or the number of the first line without
unfoldable pub trips_of : ℕ → ℕ → Trips → ℕ → List (List ℕ) → Result Trips ℕ
trips_of w h trips number [] = Ok trips
trips_of w h trips number (line ∷ lines) = and_then (or_line number (trip_in w h line)) (λ trip. trips_of w h (with_trip trips trip) (number + 1) lines)

-- whether the line is that of the version
abbrev pub is_version : List ℕ → Bool
is_version line = bytes_eq (word_at line 0) (codes "version")

-- the starts and goals of a scenario's lines, or the number of the first line that may not stand
abbrev pub scenario_of : ℕ → ℕ → List (List ℕ) → Result Trips ℕ
scenario_of w h [] = Err 1
scenario_of w h (line ∷ lines) = if is_version line then trips_of w h (record { starts = []; goals = [] }) 2 lines else Err 1
