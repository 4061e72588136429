-- What a planner keeps of the robots' goals, and how it follows from the history.
use Rattle.std.specs.Prelude.{ℕ, ◌≡◌, ◌<◌, ◌↔◌, Bool, IsTrue, ◌==◌, List, [], ◌∷◌, Option, Some, None, if◌then◌else◌, length, map, slice_get, slice_index, slice_set, replicate}
use Rattle.std.specs.List.{flat_map, range_with_len}
use Rattle.fleet_grid.specs.Floor.{Floor, IsNeighbour}
use Rattle.fleet_grid.specs.Walk.{IsBridgeless}
use Rattle.fleet_field.specs.FieldCache.{FieldCache}
use Rattle.fleet_field.specs.Store.{Keeps}
use Rattle.fleet_planner.specs.declared.turns.GoalChange.{GoalChange}
use Rattle.fleet_planner.specs.Courses.{Courses, goals_of, AreOn}
use Rattle.fleet_pibt.specs.Size.{Size}
use Rattle.fleet_queue.specs.declared.errand.Errand.{Errand}
use Rattle.fleet_queue.specs.Queue.{Queue}
use Rattle.fleet_book.specs.declared.order.Order.{Order}
use Rattle.fleet_book.specs.declared.order.Order.TheVariants.{Go}
use Rattle.fleet_book.specs.declared.verdict.Verdict.{Verdict}
use Rattle.fleet_book.specs.declared.verdict.Verdict.TheVariants.{Accepted}
use Rattle.fleet_history.specs.History.{History, robots, front}
use Rattle.fleet_history.specs.Legal.{is_none_left}
use Rattle.fleet_history.specs.Verdicts.{IsVerdict}
use Rattle.fleet_planner.specs.Planned.{goals, cell_of}
use Rattle.fleet_state.specs.Robots.{queue_at}
use Rattle.fleet_state.specs.State.{State, IsStateOf}

-- what each robot aims at, the size of the fleet and its map, whether the map has no bridge, and the fields of goals that
-- no robot has any more
pub record Planner : Type 0 where
  pub aims : Courses
  pub size : Size
  pub bridgeless : Bool
  pub kept : FieldCache

-- the planner goes by the goals after the history
pub record IsAimed {A : Type 0} (m : Floor) (h : History A) (p : Planner) : Type 0 where
  pub aimed : goals_of p.aims ≡ goals h
  pub on : AreOn m p.aims
  pub sized : p.size ≡ record { cells = length m.letters; robots = robots h }
  pub bridge : IsTrue p.bridgeless ↔ IsBridgeless (IsNeighbour m)
  pub kept : Keeps m p.kept

-- the planner goes by the goals after a history of which this is the state
pub record MayPlan {A : Type 0} (m : Floor) (s : State A) (p : Planner) : Type 0 where
  pub history : History A
  pub is : IsStateOf m history s
  pub aimed : IsAimed m history p

-- the same, and the verdict is one that the history gives on an order of some client
pub record MayBegin {A : Type 0} (m : Floor) (s : State A) (p : Planner) (order : Order) (v : Verdict) : Type 0 where
  pub may : MayPlan m s p
  pub client : ℕ
  pub verdict : IsVerdict m may.history client order v

-- the robot and the cell of an accepted errand that is its robot's first
abbrev pub begun : List Queue → Order → Verdict → Option (ℕ × ℕ)
begun queues (Go robot cell) (Accepted number) = if is_none_left (queue_at queues robot).items then Some (robot, cell) else None
begun queues _ _ = None

-- the goals, with the cell of such an errand as its robot's goal
abbrev pub begun_goals : Option (ℕ × ℕ) → List (Option ℕ) → List (Option ℕ)
begun_goals None gs = gs
begun_goals (Some first) gs = slice_set gs first.0 (Some first.1)

-- the goal after a tick that brings a robot with these errands to the cell: an arrival makes way for the next errand
abbrev pub goal_on : ℕ → List Errand → Option ℕ
goal_on cell [] = None
goal_on cell (f ∷ rest) = if f.cell == cell then cell_of (slice_get rest 0) else Some f.cell

-- the goals after a tick to these cells
abbrev pub goals_ticked : List Queue → List ℕ → List (Option ℕ)
goals_ticked queues to = map (λ r. goal_on (slice_index to r) (queue_at queues r).items) (range_with_len 0 (length queues))

-- the turn of a robot with these errands that a tick brings to the cell: an arrival makes way for the next errand
abbrev pub turn_on : ℕ → ℕ → List Errand → List GoalChange
turn_on robot cell [] = []
turn_on robot cell (f ∷ rest) = if f.cell == cell then record { robot = robot; goal = cell_of (slice_get rest 0) } ∷ [] else []

-- the turns that a tick to these cells brings, by robot
abbrev pub turns_ticked : List Queue → List ℕ → List GoalChange
turns_ticked queues to = flat_map (λ r. turn_on r (slice_index to r) (queue_at queues r).items) (range_with_len 0 (length queues))

-- the goal that a robot's queue gives it: the cell of its first errand
abbrev pub first_goal : List Queue → ℕ → Option ℕ
first_goal queues r = cell_of (slice_get (queue_at queues r).items 0)

-- the goals that the queues give, by robot
abbrev pub first_goals : List Queue → List (Option ℕ)
first_goals queues = map (first_goal queues) (range_with_len 0 (length queues))

-- nobody has an errand
abbrev pub IsIdle : {A : Type 0} → History A → Type 0
IsIdle h = (r : ℕ) → r < robots h → front h r ≡ None

-- a planner of this many robots that have no goals
pub record IsNewPlanner (m : Floor) (robots : ℕ) (p : Planner) : Type 0 where
  pub none : goals_of p.aims ≡ replicate robots None
  pub on : AreOn m p.aims
  pub size : p.size ≡ record { cells = length m.letters; robots = robots }
  pub bridge : IsTrue p.bridgeless ↔ IsBridgeless (IsNeighbour m)
  pub keeps : Keeps m p.kept
