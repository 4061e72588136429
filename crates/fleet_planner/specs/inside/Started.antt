-- How turns are made ready: which robots get fields of their own.
use Rattle.std.specs.Prelude.{⊤, ◌≡◌, ℕ, List, [], ◌∷◌, Option, Some, None, slice_set}
use Rattle.fleet_grid.specs.Floor.{Floor}
use Rattle.fleet_field.specs.Growing.{Growth, IsGrown}
use Rattle.fleet_planner.specs.declared.turns.GoalChange.{GoalChange}

-- a field for a turn's goal, or none
abbrev pub IsStart : Floor → Option ℕ → Option Growth → Type 0
IsStart m aimed None = ⊤
IsStart m aimed (Some field) = IsGrown m field × (aimed ≡ Some field.goal)

-- the turn that is left for shared fields: the robot loses the one that it had, or gets that of its new goal
abbrev pub shared_part : GoalChange → Option Growth → GoalChange
shared_part t None = t
shared_part t (Some field) = record { robot = t.robot; goal = None }

abbrev pub AreStarts : Floor → List GoalChange → List (Option Growth) → Type 0
AreStarts m [] [] = ⊤
AreStarts m [] (f ∷ fresh) = ⊥
AreStarts m (t ∷ turns) [] = ⊥
AreStarts m (t ∷ turns) (f ∷ fresh) = IsStart m t.goal f × AreStarts m turns fresh

abbrev pub shared_parts : List GoalChange → List (Option Growth) → List GoalChange
shared_parts [] fresh = []
shared_parts (t ∷ turns) [] = []
shared_parts (t ∷ turns) (f ∷ fresh) = shared_part t f ∷ shared_parts turns fresh

-- each turn gives its robot its fresh entry, the first one first
abbrev pub placed : {X : Type 0} → List GoalChange → List X → List X → List X
placed [] fresh own = own
placed (t ∷ turns) [] own = own
placed (t ∷ turns) (f ∷ fresh) own = placed turns fresh (slice_set own t.robot f)
