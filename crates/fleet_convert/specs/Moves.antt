-- A plan as a line of move letters a robot, as plans of the MAPF benchmarks are handed in.
use Rattle.std.specs.Prelude.{ℕ, ◌+◌, List, [], ◌∷◌, ◌++◌, map, slice_index, codes, ◌==◌, if◌then◌else◌}
use Rattle.fleet_plans.specs.Valid.{place_at}
use Rattle.fleet_convert.specs.declared.step.Step.{Step}
use Rattle.fleet_convert.specs.declared.step.Step.TheVariants.{Up, Down, Left, Right, Wait}
use Rattle.fleet_convert.specs.Cells.{cells_text}

-- the step from a cell to a cell, on a map of this width
abbrev pub step_between : ℕ → ℕ → ℕ → Step
step_between width from to =
    if to == from then Wait
    else if to + width == from then Up
    else if from + width == to then Down
    else if to + 1 == from then Left
    else Right

-- the letter of a step: `u`, `d`, `l`, `r` or `w`
abbrev pub letter : Step → ℕ
letter Up = 117
letter Down = 100
letter Left = 108
letter Right = 114
letter Wait = 119

-- the steps of a robot, from each placement to the next
abbrev pub steps_of : ℕ → ℕ → List (List ℕ) → List Step
steps_of width robot [] = []
steps_of width robot (place ∷ []) = []
steps_of width robot (from ∷ to ∷ places) = step_between width (slice_index from robot) (slice_index to robot) ∷ steps_of width robot (to ∷ places)

-- the letters of a robot's steps
abbrev pub track_of : ℕ → ℕ → List (List ℕ) → List ℕ
track_of width robot places = map letter (steps_of width robot places)

-- a line for each robot, from this one on
abbrev pub tracks_text : ℕ → List (List ℕ) → ℕ → List ℕ → List ℕ
tracks_text width places robot [] = []
tracks_text width places robot (start ∷ starts) = (track_of width robot places ++ codes "\n") ++ tracks_text width places (robot + 1) starts

-- what stands before the robots' lines
abbrev pub moves_head : ℕ → List ℕ → List ℕ
moves_head width starts = codes "form=moves\nstarts=" ++ cells_text width starts ++ codes "\nsolution=\n"

-- the whole text
abbrev pub moves_plan : ℕ → List (List ℕ) → List ℕ
moves_plan width places = moves_head width (place_at places 0) ++ tracks_text width places 0 (place_at places 0)
