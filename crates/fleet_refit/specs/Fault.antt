-- Why a change cannot be made.
use Rattle.std.specs.Prelude.{ℕ, List, Option, None, Some, Bool, true, false, not, ◌==◌, ◌&&◌, ◌||◌, if◌then◌else◌, nat_lt, length, slice_get}
use Rattle.std.specs.List.{list_any, position}
use Rattle.fleet_grid.specs.Floor.{is_floor}
use Rattle.fleet_hooks.specs.declared.law.StampLaw.{StampLaw}
use Rattle.fleet_queue.specs.Queue.{is_of}
use Rattle.fleet_refit.specs.declared.change.Change.{Change}
use Rattle.fleet_refit.specs.declared.change.Change.TheVariants as change
use Rattle.fleet_refit.specs.declared.change.ChangeFault.{ChangeFault}
use Rattle.fleet_refit.specs.declared.change.ChangeFault.TheVariants as fault
use Rattle.fleet_refit.specs.declared.seat.Seat.{Seat}
use Rattle.fleet_refit.specs.declared.seat.Standing.{Standing}
use Rattle.fleet_refit.specs.declared.seat.Standing.TheVariants as standing
use Rattle.fleet_refit.specs.Site.{SiteView, is_gone}

-- whether the robot stands on the cell
abbrev pub stands_on : {A : Type 0} → ℕ → Seat A → Bool
stands_on cell x = not (is_gone x.standing) && (x.robot.cell == cell)

-- whether the robot has the errand
abbrev pub has : {A : Type 0} → ℕ → ℕ → Seat A → Bool
has client number x = list_any (is_of client number) x.robot.errands

-- this fault if the test passes, or else what more there is
abbrev pub fault_if : Bool → ChangeFault → Option ChangeFault → Option ChangeFault
fault_if b f more = if b then Some f else more

-- a robot stands on the cell, and it is not this one
abbrev pub taken_fault : Option ℕ → Option ℕ → Option ChangeFault
taken_fault mine None = None
taken_fault None (Some robot) = Some (fault.IsTaken robot)
taken_fault (Some me) (Some robot) = if robot == me then None else Some (fault.IsTaken robot)

-- why the cell is not floor on which nobody stands, apart from this robot
abbrev pub floor_fault : {A : Type 0} → SiteView A → Option ℕ → ℕ → Option ChangeFault
floor_fault s mine cell =
    fault_if (not (nat_lt cell (length s.map.letters))) fault.NoCell
    (fault_if (not (is_floor s.map cell)) fault.IsWall (taken_fault mine (position (stands_on cell) s.seats)))

-- why the cell is no wall
abbrev pub wall_fault : {A : Type 0} → SiteView A → ℕ → Option ChangeFault
wall_fault s cell = fault_if (not (nat_lt cell (length s.map.letters))) fault.NoCell (fault_if (is_floor s.map cell) fault.IsFloor None)

-- why the robot is no longer there
abbrev pub standing_fault : Standing → Option ChangeFault
standing_fault standing.Moving = None
standing_fault standing.Held = None
standing_fault standing.Gone = Some fault.NoRobot

-- why the robot cannot be held
abbrev pub hold_fault : Standing → Option ChangeFault
hold_fault standing.Moving = None
hold_fault standing.Held = Some fault.IsHeld
hold_fault standing.Gone = Some fault.NoRobot

-- why the robot cannot be let go
abbrev pub free_fault : Standing → Option ChangeFault
free_fault standing.Moving = Some fault.NotHeld
free_fault standing.Held = None
free_fault standing.Gone = Some fault.NoRobot

-- why this is so of the robot of a seat, or there is none
abbrev pub seat_fault : {A : Type 0} → (Standing → Option ChangeFault) → Option (Seat A) → Option ChangeFault
seat_fault of None = Some fault.NoRobot
seat_fault of (Some x) = of x.standing

-- why this is so of the robot of that number, or there is none
abbrev pub robot_fault : {A : Type 0} → (Standing → Option ChangeFault) → SiteView A → ℕ → Option ChangeFault
robot_fault of s robot = seat_fault of (slice_get s.seats robot)

-- the first of two faults
abbrev pub or_fault : Option ChangeFault → Option ChangeFault → Option ChangeFault
or_fault None second = second
or_fault (Some f) second = Some f

-- a law by which no stamp is given
abbrev pub is_void : StampLaw → Bool
is_void law = nat_lt law.high law.low

-- why no robot with these laws can come to the cell
abbrev pub join_fault : {A : Type 0} → SiteView A → ℕ → StampLaw → StampLaw → Option ChangeFault
join_fault s cell arrivals farewells =
    or_fault (floor_fault s None cell)
    (fault_if (not (nat_lt (length s.seats) 512)) fault.TooMany (fault_if (is_void arrivals || is_void farewells) fault.NoStamp None))

-- why the robot cannot have been carried to the cell
abbrev pub move_fault : {A : Type 0} → SiteView A → ℕ → ℕ → Option ChangeFault
move_fault s robot cell = or_fault (robot_fault standing_fault s robot) (floor_fault s (Some robot) cell)

-- why no errand is dropped: no robot has it
abbrev pub errand_fault : Option ℕ → Option ChangeFault
errand_fault None = Some fault.NoErrand
errand_fault (Some robot) = None

-- why the client's errand of that number is not dropped: no robot has it
abbrev pub cancel_fault : {A : Type 0} → SiteView A → ℕ → ℕ → Option ChangeFault
cancel_fault s client number = errand_fault (position (has client number) s.seats)

-- why the change cannot be made, out of memory apart: the first reason in this order
abbrev pub fault_of : {A : Type 0} → SiteView A → Change → Option ChangeFault
fault_of s (change.Block cell) = floor_fault s None cell
fault_of s (change.Open cell) = wall_fault s cell
fault_of s (change.Join cell arrivals farewells) = join_fault s cell arrivals farewells
fault_of s (change.Leave robot) = robot_fault standing_fault s robot
fault_of s (change.Hold robot) = robot_fault hold_fault s robot
fault_of s (change.Free robot) = robot_fault free_fault s robot
fault_of s (change.Move robot cell) = move_fault s robot cell
fault_of s (change.Cancel client number) = cancel_fault s client number
