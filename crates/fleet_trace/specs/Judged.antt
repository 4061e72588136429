-- The first entry of a trace that breaks a rule, and the first rule that it breaks.
use Rattle.std.specs.Prelude.{⊤, ℕ, ◌≡◌, ◌<◌, ◌+◌, ◌⊎◌, List, ◌∷◌, ◌++◌, Option, false, is_some, map, length, take, All, MatchOption}
use Rattle.fleet_grid.specs.Floor.{Floor}
use Rattle.fleet_grid.specs.Step.{IsConflictFree}
use Rattle.fleet_hooks.specs.Law.{IsStamp}
use Rattle.fleet_book.specs.declared.order.Order.{Order}
use Rattle.fleet_book.specs.declared.verdict.Verdict.{Verdict}
use Rattle.fleet_history.specs.declared.history.Arrival.{Arrival}
use Rattle.fleet_history.specs.declared.history.Bye.{Bye}
use Rattle.fleet_history.specs.declared.history.Entry.{Entry}
use Rattle.fleet_history.specs.declared.history.Entry.TheVariants.{Take, Tick, Shut}
use Rattle.fleet_history.specs.declared.history.RobotState.{RobotState}
use Rattle.fleet_history.specs.declared.history.Opening.{Opening}
use Rattle.fleet_history.specs.History.{History, after, with_entries, clients, robots, place, is_shut, unfinished}
use Rattle.fleet_history.specs.Legal.{IsInOrder, IsLegal, Fits, due_of, due, leaving, is_none_left, arrival_law, farewell_law, IsFarewell}
use Rattle.fleet_history.specs.Verdicts.{IsVerdict}
use Rattle.fleet_state.specs.State.{State, IsStateOf}
use Rattle.fleet_trace.specs.declared.fault.JudgeFault.{JudgeFault}
use Rattle.fleet_trace.specs.declared.fault.JudgeFault.TheVariants.{Illegal, NoMemory}

-- the history with its first n entries alone
abbrev pub before : {A : Type 0} → History A → ℕ → History A
before h n = with_entries h (take n h.entries)

-- the first rule that a take breaks: 2 its client is in range, 3 its verdict is that of the verdict rule
abbrev pub TakeBreaks : {A : Type 0} → Floor → History A → ℕ → Order → Verdict → ℕ → Type 0
TakeBreaks m h client order v rule =
    ((rule ≡ 2) × (client < clients h → ⊥))
    ⊎ ((rule ≡ 3) × (client < clients h) × (IsVerdict m h client order v → ⊥))

-- the arrivals that a tick shows are those that are due
abbrev pub ShowsDue : {A : Type 0} → History A → List ℕ → List Arrival → Type 0
ShowsDue h to arrived = map due_of arrived ≡ due h to

-- the farewells that a tick shows are of those that say farewell
abbrev pub ShowsLeaving : {A : Type 0} → History A → List ℕ → List Arrival → List Bye → Type 0
ShowsLeaving h to arrived farewells = map (λ b. b.robot) farewells ≡ leaving h (after h (Tick to arrived farewells))

-- the stamps of a tick lie within the laws of their robots
abbrev pub AreStamps : {A : Type 0} → History A → List Arrival → List Bye → Type 0
AreStamps h arrived farewells = All (λ a. IsStamp (arrival_law h a.robot) a.stamp) arrived × All (λ b. IsStamp (farewell_law h b.robot) b.stamp) farewells

-- the first rule that what a tick shows breaks: 5 the arrivals, 6 the farewells, 7 the stamps
abbrev pub ShownBreaks : {A : Type 0} → History A → List ℕ → List Arrival → List Bye → ℕ → Type 0
ShownBreaks h to arrived farewells rule =
    ((rule ≡ 5) × (ShowsDue h to arrived → ⊥))
    ⊎ ((rule ≡ 6) × ShowsDue h to arrived × (ShowsLeaving h to arrived farewells → ⊥))
    ⊎ ((rule ≡ 7) × ShowsDue h to arrived × ShowsLeaving h to arrived farewells × (AreStamps h arrived farewells → ⊥))

-- the first rule that a tick breaks: 4 the step, then what it shows
abbrev pub TickBreaks : {A : Type 0} → Floor → History A → List ℕ → List Arrival → List Bye → ℕ → Type 0
TickBreaks m h to arrived farewells rule =
    ((rule ≡ 4) × (IsConflictFree m (place h) to → ⊥))
    ⊎ (IsConflictFree m (place h) to × ShownBreaks h to arrived farewells rule)

-- the robot is one that is not shut
abbrev pub MayShut : {A : Type 0} → History A → ℕ → Type 0
MayShut h robot = (robot < robots h) × (is_shut h robot ≡ false)

-- a farewell is there exactly where the robot has no errands
abbrev pub ShowsFarewell : {A : Type 0} → History A → ℕ → Option ℕ → Type 0
ShowsFarewell h robot farewell = is_some farewell ≡ is_none_left (unfinished h robot)

-- the first rule that a shut breaks: 8 before the others, 6 the farewell, 7 its stamp
abbrev pub ShutBreaks : {A : Type 0} → History A → ℕ → Option ℕ → ℕ → Type 0
ShutBreaks h robot farewell rule =
    ((rule ≡ 8) × (MayShut h robot → ⊥))
    ⊎ ((rule ≡ 6) × MayShut h robot × (ShowsFarewell h robot farewell → ⊥))
    ⊎ ((rule ≡ 7) × MayShut h robot × ShowsFarewell h robot farewell × (IsFarewell h robot farewell → ⊥))

-- the first rule that an entry after the history breaks
abbrev pub Breaks : {A : Type 0} → Floor → History A → Entry A → ℕ → Type 0
Breaks m h (Take client order v) rule = TakeBreaks m h client order v rule
Breaks m h (Tick to arrived farewells) rule = TickBreaks m h to arrived farewells rule
Breaks m h (Shut robot farewell) rule = ShutBreaks h robot farewell rule

-- after a legal history the entry of this number, counted from 1, breaks the rule first
pub record IsIllegalAt {A : Type 0} (m : Floor) (h : History A) (at rule : ℕ) : Type 0 where
  pub before : List (Entry A)
  pub entry : Entry A
  pub behind : List (Entry A)
  pub splits : h.entries ≡ before ++ entry ∷ behind
  pub place : at ≡ length before + 1
  pub legal : IsLegal m (with_entries h before)
  pub breaks : Breaks m (with_entries h before) entry rule

-- the first fault of a trace: the opening, at 0, by rule 1, or the first illegal entry
abbrev pub IsFirstIllegal : {A : Type 0} → Floor → History A → ℕ → ℕ → Type 0
IsFirstIllegal m h at rule = ((at ≡ 0) × (rule ≡ 1) × (IsInOrder m h.opening → ⊥)) ⊎ IsIllegalAt m h at rule

-- why entries are not judged legal, unless memory ran out
abbrev pub IsEntryFault : {A : Type 0} → Floor → History A → JudgeFault → Type 0
IsEntryFault m h (Illegal at rule) = IsIllegalAt m h at rule
IsEntryFault m h NoMemory = ⊤

-- why a trace is not judged legal, unless memory ran out
abbrev pub IsJudgeFault : {A : Type 0} → Floor → History A → JudgeFault → Type 0
IsJudgeFault m h (Illegal at rule) = IsFirstIllegal m h at rule
IsJudgeFault m h NoMemory = ⊤

-- ---- judged on a state

-- it is the state of a history with these robots
pub record IsOf {A : Type 0} (m : Floor) (xs : List (RobotState A)) (s : State A) (h : History A) : Type 0 where
  pub is : IsStateOf m h s
  pub same : h.opening.robots ≡ xs

-- by each such history: the entry fits it, or breaks the rule
abbrev pub JudgedBy : {A : Type 0} → Floor → List (RobotState A) → State A → Entry A → Option ℕ → Type 0
JudgedBy {A} m xs s e rule = (h : History A) → IsOf m xs s h → MatchOption rule (Fits m h e) (λ n. Breaks m h e n)

-- ---- openings that differ in the clock and the waits alone

-- all but the clock and the waits is the same in both openings
pub record AreAlike {A : Type 0} (o p : Opening A) : Type 0 where
  pub queue : p.queue ≡ o.queue
  pub life : p.life ≡ o.life
  pub clients : p.clients ≡ o.clients
  pub count : length p.robots ≡ length o.robots
  pub cells : map (λ x. x.cell) p.robots ≡ map (λ x. x.cell) o.robots
  pub shut : map (λ x. x.shut) p.robots ≡ map (λ x. x.shut) o.robots
  pub errands : map (λ x. x.errands) p.robots ≡ map (λ x. x.errands) o.robots
  pub arrival_laws : map (λ x. x.arrival_law) p.robots ≡ map (λ x. x.arrival_law) o.robots
  pub farewell_laws : map (λ x. x.farewell_law) p.robots ≡ map (λ x. x.farewell_law) o.robots
