-- A change, as users say it.
use Rattle.std.specs.Prelude.{ℕ, ◌-◌, ◌^◌, List, [], ◌∷◌, codes, nat_lt, Option, Some, None, if◌then◌else◌}
use Rattle.std.specs.Option.{option_and_then, option_map}
use Rattle.std.specs.Str.{bytes_eq}
use Rattle.fleet_hooks.specs.declared.law.StampLaw.{StampLaw}
use Rattle.fleet_map.specs.Text.{number_of, words_of}
use Rattle.fleet_refit.specs.declared.change.Change.{Change}
use Rattle.fleet_refit.specs.declared.change.Change.TheVariants as change

-- the number that a word of digits says, if it is below the bound
abbrev pub number_below : ℕ → List ℕ → Option ℕ
number_below bound word = option_and_then (λ n. if nat_lt n bound then Some n else None) (number_of word)

-- the change that a verb says of a cell; `None` where it says none of cells
abbrev pub cell_change : StampLaw × StampLaw → List ℕ → ℕ → Option Change
cell_change laws verb cell =
    if bytes_eq verb (codes "block") then Some (change.Block cell)
    else if bytes_eq verb (codes "open") then Some (change.Open cell)
    else if bytes_eq verb (codes "join") then Some (change.Join cell laws.0 laws.1) else None

-- the change that a verb says of a robot; `None` where it says none of robots
abbrev pub robot_change : List ℕ → ℕ → Option Change
robot_change verb robot =
    if bytes_eq verb (codes "leave") then Some (change.Leave robot)
    else if bytes_eq verb (codes "hold") then Some (change.Hold robot)
    else if bytes_eq verb (codes "free") then Some (change.Free robot) else None

-- the first change, or else the second
abbrev pub or_else : Option Change → Option Change → Option Change
or_else None second = second
or_else (Some c) second = Some c

-- that the client's errand of the number in the second word is dropped
abbrev pub cancel_change : ℕ → List ℕ → Option Change
cancel_change client second = option_map (λ n. change.Cancel client n) (number_below (2 ^ 60 - 1) second)

-- that the robot was carried to the cell in the second word
abbrev pub move_change : ℕ → List ℕ → Option Change
move_change robot second = option_map (λ n. change.Move robot n) (number_below (2 ^ 32) second)

-- the change that a verb and two numbers say
abbrev pub pair_change : List ℕ → List ℕ → List ℕ → Option Change
pair_change verb first second =
    option_and_then (λ n. if bytes_eq verb (codes "move") then move_change n second
    else if bytes_eq verb (codes "cancel") then cancel_change n second else None) (number_below (2 ^ 32) first)

-- the change that words say; a robot that joins gets these laws, of arrivals and of farewells
abbrev pub change_from : StampLaw × StampLaw → List (List ℕ) → Option Change
change_from laws (verb ∷ first ∷ []) =
    option_and_then (λ n. or_else (cell_change laws verb n) (robot_change verb n)) (number_below (2 ^ 32) first)
change_from laws (verb ∷ first ∷ second ∷ []) = pair_change verb first second
change_from laws _ = None

-- the change that a line says; `None` where it says none
abbrev pub change_said : StampLaw × StampLaw → List ℕ → Option Change
change_said laws line = change_from laws (words_of line)
