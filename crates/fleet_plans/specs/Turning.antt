-- The paths of robots that turn: F leads on in the robot's direction, R turns it right, C turns it left, and in W it waits. As moves,
-- a turn is a step in which the robot stays where it is.
use Rattle.std.specs.Prelude.{ℕ, List, [], ◌∷◌, ◌++◌, length, slice_index, slice_get, Option, Some, None, Result, Ok, Err, nat_lt, nat_le, ◌==◌, if◌then◌else◌, codes}
use Rattle.std.specs.Option.{option_map, option_and_then}
use Rattle.std.specs.Str.{bytes_eq}
use Rattle.serde_json.specs.Data.{Data, Items, no_items, item}
use Rattle.serde_json.specs.Find.{get, at, as_str, as_array}
use Rattle.fleet_grid.specs.declared.dir.Dir.{Dir}
use Rattle.fleet_grid.specs.declared.dir.Dir.TheVariants.{North, East, South, West}
use Rattle.fleet_plans.specs.declared.limit.TheConstants.{MOST_PLAN_BYTES}
use Rattle.fleet_plans.specs.declared.runners.fault.RunnersKey.{RunnersKey}
use Rattle.fleet_plans.specs.declared.runners.fault.RunnersKey.TheVariants.{Start}
use Rattle.fleet_plans.specs.declared.runners.fault.RunnersFault.{RunnersFault}
use Rattle.fleet_plans.specs.declared.runners.fault.RunnersFault.TheVariants.{Key, Item}
use Rattle.fleet_plans.specs.Cells.{parts_of}
use Rattle.fleet_plans.specs.Told.{or_fault, if_told, key_text}

-- the letter of a move in a direction
abbrev pub letter_of : Dir → ℕ
letter_of North = 117
letter_of East = 114
letter_of South = 100
letter_of West = 108

-- the direction after a turn to the right
abbrev pub right_of : Dir → Dir
right_of North = East
right_of East = South
right_of South = West
right_of West = North

-- the direction after a turn to the left
abbrev pub left_of : Dir → Dir
left_of North = West
left_of East = North
left_of South = East
left_of West = South

-- the letter of an action of a robot in this direction, and its direction after it
abbrev pub act : Dir → ℕ → Option (ℕ × Dir)
act dir b =
    if b == 70 then Some (letter_of dir, dir)
    else if b == 82 then Some (119, right_of dir)
    else if b == 67 then Some (119, left_of dir)
    else if b == 87 then Some (119, dir)
    else None

-- the letter and the direction of a part that is one action
abbrev pub act_in : Dir → List ℕ → Option (ℕ × Dir)
act_in dir part = if length part == 1 then act dir (slice_index part 0) else None

-- the letters of the actions of a robot that begins in this direction
abbrev pub turned : Dir → List (List ℕ) → Option (List ℕ)
turned dir [] = Some []
turned dir (part ∷ parts) = option_and_then (λ a. option_map (λ letters. a.0 ∷ letters) (turned a.1 parts)) (act_in dir part)

-- no text that is read has a longer path
abbrev pub turned_text : Dir → List ℕ → Option (List ℕ)
turned_text dir text = if nat_le (length text) MOST_PLAN_BYTES then turned dir (parts_of text) else None

-- the letters of the actions of a path that a value tells
abbrev pub turned_in : Dir → Data → Option (List ℕ)
turned_in dir d = option_and_then (turned_text dir) (as_str d)

-- ---- directions

-- the direction of this name: E, S, W or N
abbrev pub dir_named : List ℕ → Option Dir
dir_named name =
    if bytes_eq name (codes "E") then Some East
    else if bytes_eq name (codes "S") then Some South
    else if bytes_eq name (codes "W") then Some West
    else if bytes_eq name (codes "N") then Some North
    else None

-- the direction of a list that has it after a row and a column
abbrev pub dir_in : Data → Option Dir
dir_in d = option_and_then dir_named (option_and_then as_str (at 2 d))

-- no text that is read has more robots
abbrev pub with_dir : List Dir → Data → Option (List Dir)
with_dir dirs d = if nat_lt (length dirs) MOST_PLAN_BYTES then option_map (λ dir. dirs ++ dir ∷ []) (dir_in d) else None

-- the robots' directions, after these
unfoldable pub dirs_of : List Dir → Items → Result (List Dir) RunnersFault
dirs_of dirs no_items = Ok dirs
dirs_of dirs (item d ds) = if_told (or_fault (Item Start (length dirs)) (with_dir dirs d)) (λ more. dirs_of more ds)

-- the robots' directions under `start`
abbrev pub dirs_in : Data → Result (List Dir) RunnersFault
dirs_in d = if_told (or_fault (Key Start) (option_and_then as_array (get (codes "start") d))) (dirs_of [])

-- ---- paths

-- the path of a robot, which stands under this key
abbrev pub told_track : RunnersKey → ℕ → Data → Option Dir → Result (List ℕ) RunnersFault
told_track key robot d None = Err (Key key)
told_track key robot d (Some dir) = or_fault (Item key robot) (turned_in dir d)

-- the paths of robots that begin in these directions, after these paths
unfoldable pub turned_of : RunnersKey → List Dir → List (List ℕ) → Items → Result (List (List ℕ)) RunnersFault
turned_of key dirs tracks no_items = if length tracks == length dirs then Ok tracks else Err (Key key)
turned_of key dirs tracks (item d ds) = if_told (told_track key (length tracks) d (slice_get dirs (length tracks))) (λ track. turned_of key dirs (tracks ++ track ∷ []) ds)

-- the paths of robots that begin in these directions, which stand under this key
abbrev pub turned_paths : RunnersKey → List Dir → Data → Result (List (List ℕ)) RunnersFault
turned_paths key dirs d = if_told (or_fault (Key key) (option_and_then as_array (get (key_text key) d))) (turned_of key dirs [])
