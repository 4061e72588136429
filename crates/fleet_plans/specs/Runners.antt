-- The plan that a JSON value is, as the League of Robot Runners has plans: `start` has each robot's row and column, `actualPaths` the
-- letters of its steps, separated by commas. In the action model MAPF robots do not turn; in MAPF_T they do (`Turning`), and `start`
-- has each robot's direction too.
use Rattle.std.specs.Prelude.{◌≡◌, ℕ, Bool, true, false, List, [], ◌∷◌, ◌++◌, length, slice_index, Option, Some, None, Result, Ok, Err, min, nat_lt, nat_le, not, ◌==◌, ◌&&◌, if◌then◌else◌, codes}
use Rattle.std.specs.List.{position}
use Rattle.std.specs.Option.{option_map, option_and_then}
use Rattle.std.specs.Str.{bytes_eq}
use Rattle.serde_json.specs.Data.{Data, Items, no_items, item}
use Rattle.serde_json.specs.Find.{get, at, as_str, as_array, as_number, as_u64}
use Rattle.fleet_plans.specs.declared.runners.fault.RunnersKey.{RunnersKey}
use Rattle.fleet_plans.specs.declared.runners.fault.RunnersKey.TheVariants.{ActionModel, Start, TeamSize}
use Rattle.fleet_plans.specs.declared.runners.fault.RunnersFault.{RunnersFault}
use Rattle.fleet_plans.specs.declared.runners.fault.RunnersFault.TheVariants.{NotJson, Key, Item, NoMemory}
use Rattle.fleet_grid.specs.declared.dir.Dir.{Dir}
use Rattle.fleet_plans.specs.declared.limit.TheConstants.{MOST_PLAN_BYTES}
use Rattle.fleet_plans.specs.Cells.{parts_of, cell_at}
use Rattle.fleet_plans.specs.Turning.{dirs_in, turned_paths}
use Rattle.fleet_plans.specs.Text.{Source, Walked, IsPlanOf}
use Rattle.fleet_plans.specs.Told.{key_text, or_fault, if_told, IsJson}

-- ---- the form of a text

-- no white space of JSON
abbrev pub is_mark : ℕ → Bool
is_mark b = not (b == 32) && not (b == 9) && not (b == 10) && not (b == 13)

-- whether there is such a place, and a brace is there
abbrev pub is_brace_at : List ℕ → Option ℕ → Bool
is_brace_at text None = false
is_brace_at text (Some k) = slice_index text k == 123

-- whether a text is one of JSON: after white space it begins with a brace
abbrev pub is_json : List ℕ → Bool
is_json text = is_brace_at text (position is_mark text)

-- ---- starts

-- a number below 2^64
abbrev pub long_in : Data → Option ℕ
long_in d = option_and_then as_u64 (as_number d)

-- a coordinate; those from 1,024 on are alike, since no map has as many rows or columns
abbrev pub coordinate_at : ℕ → Data → Option ℕ
coordinate_at place d = option_map (λ n. min n 1024) (option_and_then long_in (at place d))

-- the cell of a list that begins with a row and a column; what follows, as an orientation, says nothing
abbrev pub start_in : ℕ → ℕ → Data → Option ℕ
start_in w h d = option_and_then (λ row. option_map (λ column. cell_at w h column row) (coordinate_at 1 d)) (coordinate_at 0 d)

-- no text that is read has more robots
abbrev pub with_start : ℕ → ℕ → List ℕ → Data → Option (List ℕ)
with_start w h cells d = if nat_lt (length cells) MOST_PLAN_BYTES then option_map (λ c. cells ++ c ∷ []) (start_in w h d) else None

-- the robots' cells, after these
unfoldable pub starts_of : ℕ → ℕ → List ℕ → Items → Result (List ℕ) RunnersFault
starts_of w h cells no_items = Ok cells
starts_of w h cells (item d ds) = if_told (or_fault (Item Start (length cells)) (with_start w h cells d)) (λ more. starts_of w h more ds)

-- the robots' cells under `start`
abbrev pub starts_in : ℕ → ℕ → Data → Result (List ℕ) RunnersFault
starts_in w h d = if_told (or_fault (Key Start) (option_and_then as_array (get (codes "start") d))) (starts_of w h [])

-- ---- paths

-- the letter of a step, as plans of moves have it
abbrev pub letter_in : ℕ → Option ℕ
letter_in b =
    if b == 85 then Some 117
    else if b == 68 then Some 100
    else if b == 76 then Some 108
    else if b == 82 then Some 114
    else if b == 87 then Some 119
    else None

-- the letter of a part that is one letter
abbrev pub step_in : List ℕ → Option ℕ
step_in part = if length part == 1 then letter_in (slice_index part 0) else None

-- the letters of a path, after these
unfoldable pub track_of : List ℕ → List (List ℕ) → Option (List ℕ)
track_of letters [] = Some letters
track_of letters (part ∷ parts) = option_and_then (λ letter. track_of (letters ++ letter ∷ []) parts) (step_in part)

-- no text that is read has a longer path
abbrev pub path_from : List ℕ → Option (List ℕ)
path_from text = if nat_le (length text) MOST_PLAN_BYTES then track_of [] (parts_of text) else None

-- the letters of a path that a value tells
abbrev pub path_in : Data → Option (List ℕ)
path_in d = option_and_then path_from (as_str d)

-- the paths of n robots, after these; they stand under this key
unfoldable pub paths_of : RunnersKey → ℕ → List (List ℕ) → Items → Result (List (List ℕ)) RunnersFault
paths_of key robots tracks no_items = if length tracks == robots then Ok tracks else Err (Key key)
paths_of key robots tracks (item d ds) =
    if nat_lt (length tracks) robots
    then if_told (or_fault (Item key (length tracks)) (path_in d)) (λ track. paths_of key robots (tracks ++ track ∷ []) ds)
    else Err (Key key)

-- the paths of n robots, which stand under this key
abbrev pub paths_in : RunnersKey → ℕ → Data → Result (List (List ℕ)) RunnersFault
paths_in key robots d = if_told (or_fault (Key key) (option_and_then as_array (get (key_text key) d))) (paths_of key robots [])

-- ---- the plan

-- whether robots turn in an action model of this name
abbrev pub turns_named : Option (List ℕ) → Option Bool
turns_named None = None
turns_named (Some text) = if bytes_eq text (codes "MAPF") then Some false else if bytes_eq text (codes "MAPF_T") then Some true else None

-- whether robots turn in the action model; where none is named, they do not
abbrev pub turns_in : Option Data → Option Bool
turns_in None = Some false
turns_in (Some d) = turns_named (as_str d)

-- whether there is a number, and it is that of the robots
abbrev pub says_count : ℕ → Option ℕ → Bool
says_count robots None = false
says_count robots (Some n) = n == robots

-- the number of robots, where one is named
abbrev pub has_size : ℕ → Option Data → Bool
has_size robots None = true
has_size robots (Some d) = says_count robots (long_in d)

-- a plan of moves without goals, of robots that begin on these cells
abbrev pub walked_from : List ℕ → List (List ℕ) → Source
walked_from starts tracks = record { goals = None; solution = Walked starts tracks }

-- a plan of moves, if it has as many robots as starts, where a number is named
abbrev pub sized : List ℕ → Data → Result (List (List ℕ)) RunnersFault → Result Source RunnersFault
sized starts d told = if has_size (length starts) (get (codes "teamSize") d) then if_told told (λ tracks. Ok (walked_from starts tracks)) else Err (Key TeamSize)

-- the directions of robots that turn
abbrev pub dirs_by : Bool → Data → Result (List Dir) RunnersFault
dirs_by false d = Ok []
dirs_by true d = dirs_in d

-- the tracks of n robots
abbrev pub tracks_by : RunnersKey → Bool → ℕ → List Dir → Data → Result (List (List ℕ)) RunnersFault
tracks_by key false robots dirs d = paths_in key robots d
tracks_by key true robots dirs d = turned_paths key dirs d

-- the plan that a value is, by whether robots turn
abbrev pub runners_by : RunnersKey → ℕ → ℕ → Data → Option Bool → Result Source RunnersFault
runners_by key w h d None = Err (Key ActionModel)
runners_by key w h d (Some turns) = if_told (starts_in w h d) (λ starts. if_told (dirs_by turns d) (λ dirs. sized starts d (tracks_by key turns (length starts) dirs d)))

-- what a value is, with the paths under this key, or the first fault; it names no goals
abbrev pub runners_of : RunnersKey → ℕ → ℕ → Data → Result Source RunnersFault
runners_of key w h d = runners_by key w h d (turns_in (get (codes "actionModel") d))

-- what was told is such a plan
abbrev pub IsToldAs : ℕ → ℕ → Result Source RunnersFault → Option (List ℕ) → List (List ℕ) → Type 0
IsToldAs w h told goals places = (source : Source) × (told ≡ Ok source) × IsPlanOf w h source goals places

-- the text is that of such a plan
abbrev pub IsRunnersPlan : RunnersKey → ℕ → ℕ → List ℕ → Option (List ℕ) → List (List ℕ) → Type 0
IsRunnersPlan key w h text goals places = (d : Data) × IsJson text d × IsToldAs w h (runners_of key w h d) goals places

-- why the text is no such plan, unless memory ran out
abbrev pub IsRunnersFault : RunnersKey → ℕ → ℕ → List ℕ → RunnersFault → Type 0
IsRunnersFault paths w h text NotJson = (d : Data) → IsJson text d → ⊥
IsRunnersFault paths w h text (Key key) = (d : Data) × IsJson text d × (runners_of paths w h d ≡ Err (Key key))
IsRunnersFault paths w h text (Item key robot) = (d : Data) × IsJson text d × (runners_of paths w h d ≡ Err (Item key robot))
IsRunnersFault paths w h text NoMemory = Unit {0}
