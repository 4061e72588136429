-- Whether the robots of a valid plan do what is asked of them: to end on their goals.
use Rattle.std.specs.Prelude.{ℕ, List, length, Option, Some, None, zip, position, not, nat_lt, ◌==◌, if◌then◌else◌}
use Rattle.std.specs.Option.{option_map, option_map_or, option_or}
use Rattle.fleet_plans.specs.declared.goals.GoalFault.{GoalFault}
use Rattle.fleet_plans.specs.declared.goals.GoalFault.TheVariants.{NoGoals, OffStart, OffGoal}
use Rattle.fleet_plans.specs.declared.goals.Demand.{Demand}
use Rattle.fleet_plans.specs.declared.goals.Demand.TheVariants as demand
use Rattle.fleet_plans.specs.Scenario.{Trips}

-- the first robot that is not on its cell of these
abbrev pub first_off : List ℕ → List ℕ → Option ℕ
first_off cells place = position (λ p. not (p.0 == p.1)) (zip cells place)

-- the first robot that does not end on its goal; a plan that names no goals has no such robot, and is no answer
abbrev pub goal_fault : Option (List ℕ) → List ℕ → Option GoalFault
goal_fault None last = Some NoGoals
goal_fault (Some goals) last = option_map_or (λ robot. Some (OffGoal robot)) (first_off goals last) None

-- the first robot that does not begin on its start, or else does not end on its goal; each robot has to have a trip
abbrev pub trip_fault : Trips → List ℕ → List ℕ → Option GoalFault
trip_fault trips first last =
    if nat_lt (length trips.goals) (length last)
    then Some NoGoals
    else option_or (option_map (λ robot. OffStart robot) (first_off trips.starts first)) (goal_fault (Some trips.goals) last)

-- what is asked of the robots of a plan: nothing, to end on the goals that the plan names, or these trips
pub data Asked : Type 0 where
  Nothing : Asked
  OwnGoals : Asked
  OfTrips : Trips → Asked

-- what a demand of the program asks
abbrev pub asked_by : Demand → Asked
asked_by demand.Nothing = Nothing
asked_by demand.OwnGoals = OwnGoals
asked_by (demand.Trips starts goals) = OfTrips (record { starts = starts.now; goals = goals.now })

-- the first robot of a plan, from this first placement to this last one, that does not do it
abbrev pub undone : Asked → Option (List ℕ) → List ℕ → List ℕ → Option GoalFault
undone Nothing goals first last = None
undone OwnGoals goals first last = goal_fault goals last
undone (OfTrips trips) goals first last = trip_fault trips first last
