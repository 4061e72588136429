-- Values of the program without where they lie in memory.
use Rattle.std.specs.Prelude.{◌≡◌, ℕ, List, Option, Result, Ok, Err, map}
use Rattle.std.specs.Option.{option_map}
use Rattle.std.specs.Borrow.{Bor}
use Rattle.fleet_map.specs.Text.{lines_of}
use Rattle.fleet_plans.specs.declared.fault.PlanTextFault.{PlanTextFault}
use Rattle.fleet_plans.specs.declared.fault.PlanTextFault.TheVariants.{Line, NoMemory}
use Rattle.fleet_plans.specs.declared.head.Head.{Head}
use Rattle.fleet_plans.specs.declared.head.Opened.{Opened}
use Rattle.fleet_plans.specs.Head as spec
use Rattle.fleet_plans.specs.declared.scenario.Scenario.{Scenario}
use Rattle.fleet_plans.specs.Scenario.{Trips}

-- a head of the program, without its memory
abbrev pub shown : {A : Type 0} → Head A → spec.Head
shown d = record { starts = d.starts; goals = d.goals; is_moves = d.is_moves }

-- a head of the program with its number and the lines after it, without its memory
abbrev pub opened : {A : Type 0} → Opened A → spec.Opened
opened x = record { head = shown x.head; number = x.number; lines = lines_of x.rest.now }

-- the starts and goals of a scenario of the program, without its memory
abbrev pub trips : Scenario → Trips
trips s = record { starts = s.starts; goals = s.goals }

-- what the texts are
abbrev pub texts : List (Bor (List ℕ)) → List (List ℕ)
texts lines = map (λ x. x.now) lines

-- the goals, where there are any
abbrev pub goals_in : Option (Bor (List ℕ)) → Option (List ℕ)
goals_in goals = option_map (λ x. x.now) goals

-- reading gives this line; out of memory says nothing of what reading gives
abbrev pub FailsAt : {Y : Type 0} → PlanTextFault → Result Y ℕ → Type 0
FailsAt NoMemory read = Unit {0}
FailsAt (Line line) read = read ≡ Err line

-- what a function returned, seen by see, is what reading gives, unless memory ran out
abbrev pub Gives : {X Y : Type 0} → (X → Y) → Result X PlanTextFault → Result Y ℕ → Type 0
Gives see (Ok x) read = read ≡ Ok (see x)
Gives see (Err e) read = FailsAt e read
