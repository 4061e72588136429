-- What reading a plan in JSON gives, and its faults.
use Rattle.std.specs.Prelude.{◌≡◌, ℕ, List, ◌++◌, Option, Some, None, Result, Ok, Err, codes, decimal, IsUtf8}
use Rattle.serde_json.specs.Data.{Data}
use Rattle.serde_json.specs.Read.{read}
use Rattle.fleet_plans.specs.declared.runners.fault.RunnersKey.{RunnersKey}
use Rattle.fleet_plans.specs.declared.runners.fault.RunnersKey.TheVariants.{ActionModel, Start, TeamSize, ActualPaths, PlannerPaths}
use Rattle.fleet_plans.specs.declared.runners.fault.RunnersFault.{RunnersFault}
use Rattle.fleet_plans.specs.declared.runners.fault.RunnersFault.TheVariants.{NotJson, Key, Item, NoMemory}

-- the key itself
abbrev pub key_text : RunnersKey → List ℕ
key_text ActionModel = codes "actionModel"
key_text Start = codes "start"
key_text TeamSize = codes "teamSize"
key_text ActualPaths = codes "actualPaths"
key_text PlannerPaths = codes "plannerPaths"

-- a fault as it prints
abbrev pub told_text : RunnersFault → List ℕ
told_text NotJson = codes "json"
told_text (Key key) = key_text key
told_text (Item key robot) = key_text key ++ codes " " ++ decimal robot
told_text NoMemory = codes "no-memory"

-- the value, or this fault where there is none
abbrev pub or_fault : {A : Type 0} → RunnersFault → Option A → Result A RunnersFault
or_fault fault None = Err fault
or_fault fault (Some x) = Ok x

-- the next step on what the first one gives, or the fault of the first
abbrev pub if_told : {A B : Type 0} → Result A RunnersFault → (A → Result B RunnersFault) → Result B RunnersFault
if_told (Ok x) f = f x
if_told (Err fault) f = Err fault

-- the fault is that of a value, unless memory ran out
abbrev pub IsToldFault : {Y : Type 0} → RunnersFault → Result Y RunnersFault → Type 0
IsToldFault NotJson told = ⊥
IsToldFault (Key key) told = told ≡ Err (Key key)
IsToldFault (Item key robot) told = told ≡ Err (Item key robot)
IsToldFault NoMemory told = Unit {0}

-- what a function returned, seen by see, is what a value tells, unless memory ran out
abbrev pub Tells : {X Y : Type 0} → (X → Y) → Result X RunnersFault → Result Y RunnersFault → Type 0
Tells see (Ok x) told = told ≡ Ok (see x)
Tells see (Err fault) told = IsToldFault fault told

-- the bytes are a JSON value's text
abbrev pub IsJson : List ℕ → Data → Type 0
IsJson bytes d = IsUtf8 bytes × (read bytes ≡ Some d)
