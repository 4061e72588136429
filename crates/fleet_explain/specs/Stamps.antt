-- The stamp of an entry that is outside of its robot's law.
use Rattle.std.specs.Prelude.{ℕ, Bool, nat_lt, ◌||◌, if◌then◌else◌, List, [], ◌∷◌, ◌++◌, Option, Some, None, map}
use Rattle.std.specs.List.{slice_index_or}
use Rattle.fleet_hooks.specs.declared.law.StampLaw.{StampLaw}
use Rattle.fleet_history.specs.declared.history.Entry.{Entry}
use Rattle.fleet_history.specs.declared.history.Entry.TheVariants.{Take, Tick, Shut}
use Rattle.fleet_history.specs.declared.history.RobotState.{RobotState}
use Rattle.fleet_history.specs.Legal.{no_law}
use Rattle.fleet_explain.specs.declared.stamp.RobotStamp.{RobotStamp}

-- a robot's stamp, with what its law allows
abbrev pub by_law : ℕ → ℕ → StampLaw → RobotStamp
by_law robot stamp law = record { robot = robot; stamp = stamp; low = law.low; high = law.high }

-- the stamp of a robot's arrival, with what the law of its arrivals allows
abbrev pub arrival_stamp : {A : Type 0} → List (RobotState A) → ℕ → ℕ → RobotStamp
arrival_stamp robots robot stamp = by_law robot stamp (slice_index_or (map (λ x. x.arrival_law) robots) robot no_law)

-- the stamp of a robot's farewell, with what the law of its farewell allows
abbrev pub farewell_stamp : {A : Type 0} → List (RobotState A) → ℕ → ℕ → RobotStamp
farewell_stamp robots robot stamp = by_law robot stamp (slice_index_or (map (λ x. x.farewell_law) robots) robot no_law)

-- the stamps that an entry shows, by the laws of these robots
abbrev pub stamps_of : {A : Type 0} → List (RobotState A) → Entry A → List RobotStamp
stamps_of robots (Take client order verdict) = []
stamps_of robots (Tick to arrived farewells) =
    map (λ a. arrival_stamp robots a.robot a.stamp) arrived ++ map (λ b. farewell_stamp robots b.robot b.stamp) farewells
stamps_of robots (Shut robot None) = []
stamps_of robots (Shut robot (Some stamp)) = farewell_stamp robots robot stamp ∷ []

-- whether the stamp is less than the law's least, or greater than its greatest
abbrev pub is_outside : RobotStamp → Bool
is_outside s = nat_lt s.stamp s.low || nat_lt s.high s.stamp

-- the first of the stamps that is outside of its law; `None` where none is
abbrev pub first_outside : List RobotStamp → Option RobotStamp
first_outside [] = None
first_outside (s ∷ stamps) = if is_outside s then Some s else first_outside stamps
