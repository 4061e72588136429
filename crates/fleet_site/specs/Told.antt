-- What a JSON value tells, if it has the form of a record.
use Rattle.std.specs.Prelude.{⊤, ◌≡◌, ℕ, List, [], ◌∷◌, Bool, false, ◌==◌, codes, Option, Some, None, Result, Ok, Err, IsUtf8, if◌then◌else◌, option_map, option_and_then}
use Rattle.std.specs.declared.alloc.Global.{Global}
use Rattle.serde_json.specs.Data.{Data}
use Rattle.serde_json.specs.Find.{get}
use Rattle.fleet_history.specs.declared.history.Opening.{Opening}
use Rattle.fleet_refit.specs.declared.change.Change.{Change}
use Rattle.fleet_refit.specs.declared.change.Change.TheVariants as change
use Rattle.fleet_refit.specs.declared.change.Dropped.{Dropped}
use Rattle.fleet_refit.specs.declared.seat.Standing.{Standing}
use Rattle.fleet_refit.specs.declared.seat.Standing.TheVariants as standing
use Rattle.fleet_trace.specs.Reads.{IsJson}
use Rattle.fleet_trace.specs.Told.{count_in, has_members, is_word, items_in, law_in, list_in, long_in, opening_in}
use Rattle.fleet_site.specs.declared.read.SiteFault.{SiteFault}
use Rattle.fleet_site.specs.declared.read.SiteFault.TheVariants as fault
use Rattle.fleet_site.specs.Record.{Record}

-- a change of a word and a number
abbrev pub single_from : Data → ℕ → Option Change
single_from name n =
    if is_word (codes "block") name then Some (change.Block n)
    else if is_word (codes "open") name then Some (change.Open n)
    else if is_word (codes "leave") name then Some (change.Leave n)
    else if is_word (codes "hold") name then Some (change.Hold n)
    else if is_word (codes "free") name then Some (change.Free n) else None

-- the change of a word and of the number that a value tells
abbrev pub single_in : Data → Data → Option Change
single_in name a = option_and_then (single_from name) (count_in a)

-- that the robot was carried to the cell that a value tells
abbrev pub move_in : ℕ → Data → Option Change
move_in robot a = option_map (λ cell. change.Move robot cell) (count_in a)

-- that the client's errand of the number that a value tells is dropped
abbrev pub cancel_in : ℕ → Data → Option Change
cancel_in client a = option_map (λ n. change.Cancel client n) (long_in a)

-- the change that a word and two numbers tell
abbrev pub pair_in : Data → Data → Data → Option Change
pair_in name a b = option_and_then (λ n. if is_word (codes "move") name then move_in n b else if is_word (codes "cancel") name then cancel_in n b else None) (count_in a)

-- that a robot joins on a cell, with the laws of its arrivals and of its farewell
abbrev pub join_in : Data → Data → Data → Data → Option Change
join_in name cell arrivals farewells =
    if is_word (codes "join") name then option_and_then (λ c. option_and_then (λ a. option_map (λ f. change.Join c a f) (law_in farewells)) (law_in arrivals)) (count_in cell) else None

-- the change that two, three or four items tell
abbrev pub change_from : List Data → Option Change
change_from (name ∷ a ∷ []) = single_in name a
change_from (name ∷ a ∷ b ∷ []) = pair_in name a b
change_from (name ∷ a ∷ b ∷ c ∷ []) = join_in name a b c
change_from _ = None

-- the change that an array tells
abbrev pub change_in : Data → Option Change
change_in d = option_and_then change_from (items_in d)

-- the dropped errand that four items tell
abbrev pub dropped_from : List Data → Option Dropped
dropped_from (robot ∷ client ∷ errand ∷ cell ∷ []) =
    option_and_then (λ r. option_and_then (λ c. option_and_then (λ n. option_map (λ x. record { robot = r; client = c; number = n; cell = x }) (count_in cell)) (long_in errand)) (count_in client)) (count_in robot)
dropped_from _ = None

-- the dropped errand that an array tells
abbrev pub dropped_in : Data → Option Dropped
dropped_in d = option_and_then dropped_from (items_in d)

-- how a robot takes part, as a word tells it
abbrev pub standing_in : Data → Option Standing
standing_in d =
    if is_word (codes "moving") d then Some standing.Moving
    else if is_word (codes "held") d then Some standing.Held
    else if is_word (codes "gone") d then Some standing.Gone else None

-- ---- the record

-- whether there is a number, and it is that of the first version
abbrev pub is_first : Option ℕ → Bool
is_first None = false
is_first (Some n) = n == 1

-- the record of a chapter, with this checksum and this opening, whose lists an object tells
abbrev pub lists_in : {A : Type 0} → ℕ → ℕ → Opening A → Data → Option (Record A)
lists_in chapter sum o d =
    option_and_then (λ cs. option_and_then (λ ds. option_map (λ ss. record { chapter = chapter; map = sum; changes = cs; dropped = ds; standings = ss; everyone = o })
    (option_and_then (list_in standing_in) (get (codes "standings") d)))
    (option_and_then (list_in dropped_in) (get (codes "dropped") d)))
    (option_and_then (list_in change_in) (get (codes "changes") d))

-- the record that an object of exactly seven members tells
abbrev pub record_in : {A : Type 0} → Data → Option (Record A)
record_in d = if has_members 7 d then (if is_first (option_and_then count_in (get (codes "version") d)) then
    option_and_then (λ n. option_and_then (λ s. option_and_then (λ o. lists_in n s o d) (option_and_then opening_in (get (codes "everyone") d)))
    (option_and_then long_in (get (codes "map") d))) (option_and_then count_in (get (codes "chapter") d)) else None)
    else None

-- what is read, unless memory ran out; a value of another form is a fault
abbrev pub Gives : {X Y : Type 0} → (X → Y) → Result X SiteFault → Option Y → Type 0
Gives see (Ok x) told = told ≡ Some (see x)
Gives see (Err fault.Shape) told = told ≡ None
Gives see (Err fault.NoMemory) told = ⊤

-- the bytes tell the record: they are a JSON value's text, which has its form
abbrev pub Tells : {A : Type 0} → List ℕ → Record A → Type 0
Tells bytes r = (d : Data) × (IsJson bytes d × (record_in d ≡ Some r))

-- why the bytes tell no record, unless memory ran out: they tell none
abbrev pub IsSiteFault : List ℕ → SiteFault → Type 0
IsSiteFault bytes fault.Shape = (r : Record Global) → Tells bytes r → ⊥
IsSiteFault bytes fault.NoMemory = ⊤
