-- What is kept agrees with a plan and with how far robots have come.
use Rattle.std.specs.Prelude.{◌≡◌, ℕ, zero, suc, ◌+◌, ◌-◌, ◌%◌, ◌<◌, ◌≤◌, ◌⊎◌, Bool, true, not, ◌&&◌, ◌==◌, nat_lt, if◌then◌else◌, List, Option, Some, None, length, slice_index}
use Rattle.std.specs.List.{list_any}
use Rattle.std.proofs.Common.{eqb}
use Rattle.execution_law.specs.declared.clearance.Clearance.TheVariants.{Arrived, Started}
use Rattle.execution_law.specs.Run.{Plan, Run, Moves, Leaves, Follows, Turns, IsMate}
use Rattle.execution_law.specs.Rule.{MayBegin, IsLawful}
use Rattle.execution_law.specs.Change.{BeginsWith}
use Rattle.fleet_execution.specs.declared.robot.Robot.{Robot}
use Rattle.fleet_execution.specs.declared.robot.Leave.{Leave}
use Rattle.fleet_execution.specs.declared.robot.Planned.{Planned}
use Rattle.fleet_execution.specs.declared.robot.Turning.{Turning}
use Rattle.fleet_execution.specs.Course.{Course}
use Rattle.fleet_execution.specs.Desk.{Desk}

-- nobody leaves the cell between that leave and the end of step t
pub record IsLast (plan : Plan) (t c : ℕ) (l : Leave) : Type 0 where
  pub inside : l.robot < plan.robots
  pub leaves : Leaves plan l.robot l.step c
  pub early : l.step ≤ t
  pub last : (q e : ℕ) → q < plan.robots → e ≤ t → Leaves plan q e c → e ≤ l.step

-- the last leave of the cell up to the end of step t, if there is one
abbrev pub IsLastLeave : Plan → ℕ → ℕ → Option Leave → Type 0
IsLastLeave plan t c None = (q e : ℕ) → q < plan.robots → e ≤ t → Leaves plan q e c → ⊥
IsLastLeave plan t c (Some l) = IsLast plan t c l

-- a step that is kept
pub record IsKept (ahead steps t : ℕ) : Type 0 where
  pub some : 0 < t
  pub planned : t ≤ steps
  pub late : steps < t + ahead

-- the steps that are kept, and who left each cell last
pub record Knows (plan : Plan) (ahead cells : ℕ) (window : ℕ → ℕ → Planned) (leave : ℕ → Option Leave) : Type 0 where
  pub to : (r t : ℕ) → r < plan.robots → IsKept ahead plan.steps t → (window r t).to ≡ plan.cell t r
  pub after : (r t : ℕ) → r < plan.robots → IsKept ahead plan.steps t → Moves plan r t → IsLastLeave plan t (plan.cell t r) (window r t).after
  pub follower : (r t : ℕ) (l : Leave) → r < plan.robots → IsKept ahead plan.steps t → Moves plan r t → (window r t).after ≡ Some l →
      IsKept ahead plan.steps l.step → (window l.robot l.step).follower ≡ Some r
  pub left : (c : ℕ) → c < cells → IsLastLeave plan plan.steps c (leave c)
  pub inside : (r t : ℕ) → r < plan.robots → t ≤ plan.steps → plan.cell t r < cells

-- a robot
pub record IsTracked (o : Course) (r : ℕ) (s : Robot) : Type 0 where
  pub reached : s.reached ≡ o.run.reached r
  pub returned : s.returned ≡ o.returned r
  pub cell : s.cell ≡ o.run.plan.cell (o.run.reached r) r
  pub bound : s.bound ≡ o.run.plan.cell (o.returned r) r
  pub last : s.last ≡ o.run.plan.cell o.run.plan.steps r
  pub turned_before : s.turned ≤ o.returned r
  pub turned : 0 < o.returned r → s.turned ≡ o.returned r → Turns o.run.plan (o.returned r) r
  pub straight : Turns o.run.plan (o.returned r) r → s.turned ≡ o.returned r

-- a cycle whose moves have begun: those that were returned are the first ones, each followed by the next
pub record IsTurning (o : Course) (k : Turning) : Type 0 where
  pub first_in : k.first < o.run.plan.robots
  pub next_in : k.next < o.run.plan.robots
  pub planned : k.step ≤ o.run.plan.steps
  pub turns : Turns o.run.plan k.step k.first
  pub begun : (q : ℕ) → IsMate o.run.plan k.step k.first q → o.run.begun q ≡ k.step
  pub given : o.returned k.first ≡ k.step
  pub mate : IsMate o.run.plan k.step k.first k.next
  pub waits : o.returned k.next < k.step
  pub led : (p : ℕ) × (p < o.run.plan.robots) × (o.returned p ≡ k.step) × Follows o.run.plan k.step p k.next
  pub others : (q : ℕ) → q < o.run.plan.robots → (o.returned q ≡ o.run.begun q) ⊎ (IsMate o.run.plan k.step k.first q × (o.returned q ≡ o.run.reached q))
  pub follows : (p q : ℕ) → IsMate o.run.plan k.step k.first p → o.returned p ≡ k.step → q < o.run.plan.robots → Follows o.run.plan k.step p q →
      (o.returned q ≡ k.step) ⊎ (q ≡ k.next)
  pub entered : (q : ℕ) → IsMate o.run.plan k.step k.first q → o.returned q ≡ k.step → (q ≡ k.first) ⊎ ((p : ℕ) × (p < o.run.plan.robots) × (o.returned p ≡ k.step) × Follows o.run.plan k.step p q)

-- each move that has begun was returned
abbrev pub AreReturned : Course → Type 0
AreReturned o = (r : ℕ) → r < o.run.plan.robots → o.returned r ≡ o.run.begun r

-- the cycle whose moves were not all returned; without one, each move that has begun was returned
abbrev pub IsTurningOf : Course → Option Turning → Type 0
IsTurningOf o None = AreReturned o
IsTurningOf o (Some k) = IsTurning o k

-- how far robots have come: one move of a robot is under way at a time
pub record IsCourse (o : Course) : Type 0 where
  pub lawful : IsLawful o.run
  pub one : (r t : ℕ) → r < o.run.plan.robots → Moves o.run.plan r t → t < o.run.begun r → t ≤ o.run.reached r
  pub low : (r : ℕ) → r < o.run.plan.robots → o.run.reached r ≤ o.returned r
  pub high : (r : ℕ) → r < o.run.plan.robots → o.returned r ≤ o.run.begun r

-- how many numbers below n pass the test
abbrev pub count_below : ℕ → (ℕ → Bool) → ℕ
count_below zero p = 0
count_below (suc n) p = (if p n then 1 else 0) + count_below n p

-- whether robot r changes its cell in step t
abbrev pub changes : Plan → ℕ → ℕ → Bool
changes plan t r = not (plan.cell t r == plan.cell (t - 1) r)

-- whether robot r changes its cell in step t, and has not reached the new one
abbrev pub is_open : Plan → (ℕ → ℕ) → ℕ → ℕ → Bool
is_open plan reached t r = changes plan t r && nat_lt (reached r) t

-- of the steps up to `last`, how many after step `done` have a move of robot r
abbrev pub moves_between : Plan → ℕ → ℕ → ℕ → ℕ
moves_between plan r done last = count_below (last + 1) (λ t. nat_lt done t && changes plan t r)

-- the moves of each step that are not reached
pub record Counts (plan : Plan) (reached : ℕ → ℕ) (ahead : ℕ) (unreached : ℕ → ℕ) : Type 0 where
  pub kept : (t : ℕ) → IsKept ahead plan.steps t → unreached (t % ahead) ≡ count_below plan.robots (is_open plan reached t)
  pub blank : (t : ℕ) → plan.steps < t → t ≤ ahead → unreached (t % ahead) ≡ 0
  pub old : (r t : ℕ) → r < plan.robots → Moves plan r t → t + ahead ≤ plan.steps → t ≤ reached r

-- the number is in the list
abbrev pub IsIn : List ℕ → ℕ → Type 0
IsIn xs q = list_any (eqb q) xs ≡ true

-- of the robots that begin together, one is in the list
abbrev pub Completes : Run → List ℕ → Type 0
Completes run ready = (r t : ℕ) → r < run.plan.robots → ((q : ℕ) → BeginsWith run.plan t r q → IsIn ready q → ⊥) → MayBegin run r t → ⊥

-- what is kept is that of a course: of its plan's last steps, and of how far its robots have come
pub record Executes (d : Desk) (o : Course) : Type 0 where
  pub clearance : o.run.clearance ≡ d.clearance
  pub robots : o.run.plan.robots ≡ d.count
  pub steps : o.run.plan.steps ≡ d.steps
  pub course : IsCourse o
  pub knows : Knows o.run.plan d.ahead d.cells d.window d.leave
  pub tracked : (r : ℕ) → r < o.run.plan.robots → IsTracked o r (d.robot r)
  pub turning : IsTurningOf o d.turning
  pub counts : Counts o.run.plan o.run.reached d.ahead d.unreached
  pub completes : Completes o.run d.ready

-- a step from the placement that was planned last, free of conflicts
pub record IsStep (d : Desk) (to : List ℕ) : Type 0 where
  pub robots : length to ≡ d.count
  pub inside : (r : ℕ) → r < d.count → slice_index to r < d.cells
  pub distinct : (r q : ℕ) → r < d.count → q < d.count → slice_index to r ≡ slice_index to q → r ≡ q
  pub no_swap : (r q : ℕ) → r < d.count → q < d.count → slice_index to r ≡ (d.robot q).last → slice_index to q ≡ (d.robot r).last → r ≡ q

-- those that turned with the robot are in the list, or one of them has not reached its cell
abbrev pub AreWoken : Run → (ℕ → ℕ) → List ℕ → ℕ → ℕ → Type 0
AreWoken run reached ready r t = ((q : ℕ) → IsMate run.plan t r q → IsIn ready q) ⊎ ((q : ℕ) × IsMate run.plan t r q × (reached q < t))

-- what a report wakes: where a robot must arrive before its cell is clear, those that turned with it, or who enters its old cell next
abbrev pub Wakes : Desk → Run → (ℕ → ℕ) → List ℕ → ℕ → ℕ → Type 0
Wakes d run reached ready r t = (run.clearance ≡ Started) ⊎ ((run.clearance ≡ Arrived) × ((Turns run.plan t r × AreWoken run reached ready r t)
    ⊎ ((Turns run.plan t r → ⊥) × ((f : ℕ) → f < run.plan.robots → (d.window r t).follower ≡ Some f → IsIn ready f))))
