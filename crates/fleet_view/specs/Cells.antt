-- Traces whose cells a map has.
use Rattle.std.specs.Prelude.{ℕ, ◌+◌, Bool, true, ◌&&◌, nat_lt, List, [], ◌∷◌, Option, Some, None, if◌then◌else◌}
use Rattle.std.specs.List.{list_all}
use Rattle.fleet_history.specs.declared.history.Entry.{Entry}
use Rattle.fleet_history.specs.declared.history.Entry.TheVariants.{Take, Tick, Shut}
use Rattle.fleet_history.specs.declared.history.RobotState.{RobotState}
use Rattle.fleet_trace.specs.Trace.{Trace}

-- a map of n cells has these
abbrev pub are_cells : ℕ → List ℕ → Bool
are_cells n cells = list_all (λ cell. nat_lt cell n) cells

-- a map of n cells has those of a robot's errands
abbrev pub are_errands_on : {A : Type 0} → ℕ → RobotState A → Bool
are_errands_on n x = list_all (λ e. nat_lt e.cell n) x.errands

-- a map of n cells has a robot's cell and those of its errands
abbrev pub is_robot_on : {A : Type 0} → ℕ → RobotState A → Bool
is_robot_on n x = nat_lt x.cell n && are_errands_on n x

-- a map of n cells has those of a tick; an order may be for any cell
abbrev pub is_entry_on : {A : Type 0} → ℕ → Entry A → Bool
is_entry_on n (Tick to arrived farewells) = are_cells n to
is_entry_on n (Take client order verdict) = true
is_entry_on n (Shut robot farewell) = true

-- a map of n cells has those of a trace's opening and ticks
abbrev pub is_trace_on : {A : Type 0} → ℕ → Trace A → Bool
is_trace_on n t = list_all (is_robot_on n) t.history.opening.robots && list_all (is_entry_on n) t.history.entries

-- the place, from k on, of the first trace with a cell that it does not have
abbrev pub first_off : {A : Type 0} → ℕ → ℕ → List (Trace A) → Option ℕ
first_off n k [] = None
first_off n k (t ∷ ts) = if is_trace_on n t then first_off n (k + 1) ts else Some k
