-- What more there is to say of an entry that breaks a rule.
use Rattle.std.specs.Prelude.{◌≡◌, ◌⊎◌, ℕ, ◌-◌, ◌==◌, ◌&&◌, Bool, nat_lt, if◌then◌else◌, List, [], ◌∷◌, Option, Some, None, map, slice_get}
use Rattle.fleet_grid.specs.Floor.{Floor}
use Rattle.fleet_grid.specs.Step.{IsConflictFree}
use Rattle.fleet_check.specs.Fault.{IsFirstFault}
use Rattle.fleet_history.specs.declared.history.Arrival.{Arrival}
use Rattle.fleet_history.specs.declared.history.Bye.{Bye}
use Rattle.fleet_history.specs.declared.history.Entry.{Entry}
use Rattle.fleet_history.specs.declared.history.Entry.TheVariants.{Take, Tick, Shut}
use Rattle.fleet_history.specs.History.{History, after, robots, clients, place, unfinished}
use Rattle.fleet_history.specs.Legal.{Due as Arriving, due_of, due, is_none_left, robot_if, leaving}
use Rattle.fleet_history.specs.Verdicts.{IsVerdict}
use Rattle.fleet_book.specs.declared.order.Order.{Order}
use Rattle.fleet_book.specs.declared.verdict.Verdict.{Verdict}
use Rattle.fleet_trace.specs.Judged.{before, ShowsDue}
use Rattle.fleet_trace.specs.OutOfOrder.{IsOutOfOrder}
use Rattle.fleet_explain.specs.declared.detail.Detail.{Detail}
use Rattle.fleet_explain.specs.declared.detail.Detail.TheVariants.{Nothing, Opening, Due, Step, Missing, Extra, MissingFarewell, ExtraFarewell, Stamp, Clients, Robots, ShutBefore}
use Rattle.fleet_explain.specs.declared.arrival.ArrivalName.{ArrivalName}
use Rattle.fleet_explain.specs.declared.stamp.RobotStamp.{RobotStamp}
use Rattle.fleet_explain.specs.Only.{HasNoOther, IsOnlyIn}
use Rattle.fleet_explain.specs.Stamps.{first_outside, stamps_of}

-- of a step from cells to cells
abbrev pub IsStepDetail : Floor → List ℕ → List ℕ → Detail → Type 0
IsStepDetail m from to Nothing = IsConflictFree m from to
IsStepDetail m from to (Step fault) = IsFirstFault m from to fault
IsStepDetail m from to _ = ⊥

-- the entry at this place, from 1, is a tick, whose step from where the robots stood has this first fault
abbrev pub IsStepAt : {A : Type 0} → Floor → History A → ℕ → Detail → Type 0
IsStepAt m h at detail =
    (to : List ℕ) × (arrived : List Arrival) × (farewells : List Bye) × (slice_get h.entries (at - 1) ≡ Some (Tick to arrived farewells))
    × IsStepDetail m (place (before h (at - 1))) to detail

-- ---- arrivals

-- the arrival that a detail names
abbrev pub named : ArrivalName → Arriving
named d = record { robot = d.robot; client = d.client; number = d.number }

-- whether two arrivals are of the same robot, client and errand
abbrev pub is_same : Arriving → Arriving → Bool
is_same a b = (a.robot == b.robot) && (a.client == b.client) && (a.number == b.number)

-- of the arrivals that are due, and of those that a tick shows
abbrev pub IsArrivalDetail : List Arriving → List Arriving → Detail → Type 0
IsArrivalDetail due shown Nothing = HasNoOther is_same due shown × HasNoOther is_same shown due
IsArrivalDetail due shown (Missing d) = IsOnlyIn is_same due shown (named d)
IsArrivalDetail due shown (Extra d) = IsOnlyIn is_same shown due (named d)
IsArrivalDetail due shown _ = ⊥

-- the entry at this place, from 1, is a tick, of whose arrivals this is said
abbrev pub IsArrivalAt : {A : Type 0} → History A → ℕ → Detail → Type 0
IsArrivalAt h at detail =
    (to : List ℕ) × (arrived : List Arrival) × (farewells : List Bye) × (slice_get h.entries (at - 1) ≡ Some (Tick to arrived farewells))
    × IsArrivalDetail (due (before h (at - 1)) to) (map due_of arrived) detail

-- ---- farewells

-- the robots whose farewells an entry shows
abbrev pub farewells_shown : {A : Type 0} → Entry A → List ℕ
farewells_shown (Take client order verdict) = []
farewells_shown (Tick to arrived farewells) = map (λ b. b.robot) farewells
farewells_shown (Shut robot None) = []
farewells_shown (Shut robot (Some stamp)) = robot ∷ []

-- the robots whose farewells are due of an entry after the history
abbrev pub farewells_due : {A : Type 0} → History A → Entry A → List ℕ
farewells_due h (Take client order verdict) = []
farewells_due h (Tick to arrived farewells) = leaving h (after h (Tick to arrived farewells))
farewells_due h (Shut robot farewell) = robot_if (is_none_left (unfinished h robot)) robot

-- whether two robots are the same
abbrev pub same_robot : ℕ → ℕ → Bool
same_robot q r = q == r

-- of the robots whose farewells are due, and of those whose farewells are shown
abbrev pub IsFarewellDetail : List ℕ → List ℕ → Detail → Type 0
IsFarewellDetail due shown Nothing = HasNoOther same_robot due shown × HasNoOther same_robot shown due
IsFarewellDetail due shown (MissingFarewell r) = IsOnlyIn same_robot due shown r
IsFarewellDetail due shown (ExtraFarewell r) = IsOnlyIn same_robot shown due r
IsFarewellDetail due shown _ = ⊥

-- of the farewells that a tick to these cells shows after the history, whatever arrivals it shows, if they are those that are due
abbrev pub IsTickDetail : {A : Type 0} → History A → List ℕ → List Bye → Detail → Type 0
IsTickDetail h to farewells detail =
    (arrived : List Arrival) → ShowsDue h to arrived → IsFarewellDetail (leaving h (after h (Tick to arrived farewells))) (map (λ b. b.robot) farewells) detail

-- of the farewell that a shut shows, where the sixth rule is broken
abbrev pub shut_detail : ℕ → Option ℕ → Detail
shut_detail robot None = MissingFarewell robot
shut_detail robot (Some stamp) = ExtraFarewell robot

-- this is said of the farewells of the entry at this place, from 1
abbrev pub IsFarewellAt : {A : Type 0} → History A → ℕ → Detail → Type 0
IsFarewellAt {A} h at detail =
    (e : Entry A) × (slice_get h.entries (at - 1) ≡ Some e) × IsFarewellDetail (farewells_due (before h (at - 1)) e) (farewells_shown e) detail

-- ---- a verdict

-- of a client's order after the history
abbrev pub IsVerdictDetail : {A : Type 0} → Floor → History A → ℕ → Order → Detail → Type 0
IsVerdictDetail m h client order (Due verdict) = IsVerdict m h client order verdict
IsVerdictDetail m h client order _ = ⊥

-- the entry at this place, from 1, is a take, and this is said of its order
abbrev pub IsVerdictAt : {A : Type 0} → Floor → History A → ℕ → Detail → Type 0
IsVerdictAt m h at detail =
    (client : ℕ) × (order : Order) × (shown : Verdict) × (slice_get h.entries (at - 1) ≡ Some (Take client order shown))
    × IsVerdictDetail m (before h (at - 1)) client order detail

-- ---- a shut

-- why a robot cannot be shut, where there are this many
abbrev pub why_not_shut : ℕ → ℕ → Detail
why_not_shut robots robot = if nat_lt robot robots then ShutBefore else Robots robots

-- the entry at this place, from 1, is a shut, and this is said of its robot
abbrev pub IsShutAt : {A : Type 0} → History A → ℕ → Detail → Type 0
IsShutAt h at detail = (robot : ℕ) × (farewell : Option ℕ) × (slice_get h.entries (at - 1) ≡ Some (Shut robot farewell)) × (detail ≡ why_not_shut (robots h) robot)

-- ---- a stamp

-- what is said of the first stamp that is outside of its law; nothing where there is none
abbrev pub stamp_detail : Option RobotStamp → Detail
stamp_detail None = Nothing
stamp_detail (Some stamp) = Stamp stamp

-- of the stamps of the entry at this place, from 1, this is the first that is outside of its law
abbrev pub IsStampAt : {A : Type 0} → History A → ℕ → RobotStamp → Type 0
IsStampAt {A} h at stamp =
    (e : Entry A) × (slice_get h.entries (at - 1) ≡ Some e) × (first_outside (stamps_of h.opening.robots e) ≡ Some stamp)

-- ---- an entry

-- where the first rule is broken, the part of the opening that is not in order is named; where the second is, how many clients there are; where
-- the third is, the verdict that was due; where the fourth is, the first fault of the step; where the fifth or the sixth is, an arrival or a farewell
-- that is missing or too many; where the seventh is, the stamp; where the eighth is, how many robots there are, or that the robot is shut already.
-- Nothing is said only where an entry shows the arrivals or farewells that are due, but in another order or more than once
abbrev pub IsDetail : {A : Type 0} → Floor → History A → ℕ → ℕ → Detail → Type 0
IsDetail m h at rule Nothing = ((rule ≡ 5) × IsArrivalAt h at Nothing) ⊎ ((rule ≡ 6) × IsFarewellAt h at Nothing)
IsDetail m h at rule (Opening part) = (rule ≡ 1) × IsOutOfOrder m h.opening part
IsDetail m h at rule (Due verdict) = (rule ≡ 3) × IsVerdictAt m h at (Due verdict)
IsDetail m h at rule (Step fault) = (rule ≡ 4) × IsStepAt m h at (Step fault)
IsDetail m h at rule (Missing d) = (rule ≡ 5) × IsArrivalAt h at (Missing d)
IsDetail m h at rule (Extra d) = (rule ≡ 5) × IsArrivalAt h at (Extra d)
IsDetail m h at rule (MissingFarewell r) = (rule ≡ 6) × IsFarewellAt h at (MissingFarewell r)
IsDetail m h at rule (ExtraFarewell r) = (rule ≡ 6) × IsFarewellAt h at (ExtraFarewell r)
IsDetail m h at rule (Stamp stamp) = (rule ≡ 7) × IsStampAt h at stamp
IsDetail m h at rule (Clients count) = (rule ≡ 2) × (count ≡ clients h)
IsDetail m h at rule (Robots count) = (rule ≡ 8) × IsShutAt h at (Robots count)
IsDetail m h at rule ShutBefore = (rule ≡ 8) × IsShutAt h at ShutBefore
