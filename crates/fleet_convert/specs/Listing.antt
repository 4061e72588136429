-- A plan robot by robot, with a cell for each time: as paths of agents, as a table, or as YAML.
use Rattle.std.specs.Prelude.{ℕ, ◌+◌, ◌/◌, ◌%◌, List, [], ◌∷◌, ◌++◌, slice_index, codes, decimal}
use Rattle.fleet_plans.specs.Valid.{place_at}
use Rattle.fleet_convert.specs.declared.listing.Listing.{Listing}
use Rattle.fleet_convert.specs.declared.listing.Listing.TheVariants.{Agents, Table, Schedule}

-- what stands before all robots
abbrev pub opening : Listing → List ℕ
opening Agents = []
opening Table = codes "agent,time,row,column\n"
opening Schedule = codes "schedule:\n"

-- what stands before the cells of a robot
abbrev pub robot_text : Listing → ℕ → List ℕ
robot_text Agents robot = codes "Agent " ++ decimal robot ++ codes ": "
robot_text Table robot = []
robot_text Schedule robot = codes "  agent" ++ decimal robot ++ codes ":\n"

-- what stands after them
abbrev pub ending : Listing → List ℕ
ending Agents = codes "\n"
ending Table = []
ending Schedule = []

-- the cell of a robot at a time, by its row and its column
abbrev pub stand_text : Listing → ℕ → ℕ → ℕ → ℕ → List ℕ
stand_text Agents robot time row column = codes "(" ++ decimal row ++ codes "," ++ decimal column ++ codes ")->"
stand_text Table robot time row column = decimal robot ++ codes "," ++ decimal time ++ codes "," ++ decimal row ++ codes "," ++ decimal column ++ codes "\n"
stand_text Schedule robot time row column = codes "    - x: " ++ decimal column ++ codes "\n      y: " ++ decimal row ++ codes "\n      t: " ++ decimal time ++ codes "\n"

-- the cells of a robot on a map of this width, from this time on
abbrev pub stands_from : Listing → ℕ → ℕ → ℕ → List (List ℕ) → List ℕ
stands_from listing width robot time [] = []
stands_from listing width robot time (place ∷ places) =
    stand_text listing robot time (slice_index place robot / width) (slice_index place robot % width) ++ stands_from listing width robot (time + 1) places

-- all that is written of a robot
abbrev pub path_text : Listing → ℕ → ℕ → List (List ℕ) → List ℕ
path_text listing width robot places = robot_text listing robot ++ stands_from listing width robot 0 places ++ ending listing

-- the paths, from this robot on
abbrev pub paths_text : Listing → ℕ → List (List ℕ) → ℕ → List ℕ → List ℕ
paths_text listing width places robot [] = []
paths_text listing width places robot (start ∷ starts) = path_text listing width robot places ++ paths_text listing width places (robot + 1) starts

-- the whole text
abbrev pub listed_plan : Listing → ℕ → List (List ℕ) → List ℕ
listed_plan listing width places = opening listing ++ paths_text listing width places 0 (place_at places 0)
