-- A plan as the JSON of the League of Robot Runners: where each robot starts, `[ROW,COLUMN,"E"]`, and its path, the letters of
-- its steps separated by commas, of the action model MAPF, in which robots do not turn.
use Rattle.std.specs.Prelude.{ℕ, ◌+◌, ◌/◌, ◌%◌, List, [], ◌∷◌, ◌++◌, length, codes, decimal, ◌==◌, if◌then◌else◌}
use Rattle.fleet_plans.specs.Valid.{place_at}
use Rattle.fleet_convert.specs.declared.step.Step.{Step}
use Rattle.fleet_convert.specs.declared.step.Step.TheVariants.{Up, Down, Left, Right, Wait}
use Rattle.fleet_convert.specs.Moves.{steps_of}

-- the letter of a step: `U`, `D`, `L`, `R` or `W`
abbrev pub capital : Step → List ℕ
capital Up = codes "U"
capital Down = codes "D"
capital Left = codes "L"
capital Right = codes "R"
capital Wait = codes "W"

-- what stands before the item in this place of a list
abbrev pub comma_before : ℕ → List ℕ
comma_before place = if place == 0 then [] else codes ","

-- a path, of the steps from this one on
abbrev pub path_from : ℕ → List Step → List ℕ
path_from place [] = []
path_from place (step ∷ steps) = (comma_before place ++ capital step) ++ path_from (place + 1) steps

-- the starts, from this robot on
abbrev pub starts_from : ℕ → ℕ → List ℕ → List ℕ
starts_from width robot [] = []
starts_from width robot (cell ∷ cells) = (comma_before robot ++ codes "[" ++ decimal (cell / width) ++ codes "," ++ decimal (cell % width) ++ codes ",\"E\"]") ++ starts_from width (robot + 1) cells

-- the paths, from this robot on
abbrev pub paths_from : ℕ → List (List ℕ) → ℕ → List ℕ → List ℕ
paths_from width places robot [] = []
paths_from width places robot (start ∷ starts) = (comma_before robot ++ codes "\"" ++ path_from 0 (steps_of width robot places) ++ codes "\"") ++ paths_from width places (robot + 1) starts

-- the whole text
abbrev pub runners_plan : ℕ → List (List ℕ) → List ℕ
runners_plan width places =
    codes "{\"actionModel\":\"MAPF\",\"teamSize\":" ++ decimal (length (place_at places 0))
    ++ codes ",\"start\":[" ++ starts_from width 0 (place_at places 0)
    ++ codes "],\"actualPaths\":[" ++ paths_from width places 0 (place_at places 0)
    ++ codes "]}\n"
