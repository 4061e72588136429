-- The plan that a text is.
use Rattle.std.specs.Prelude.{◌≡◌, ℕ, false, List, [], length, Option, Some, None, Result, Ok, Err, if◌then◌else◌, unwrap_or}
use Rattle.fleet_map.specs.Text.{lines_of}
use Rattle.fleet_plans.specs.Head.{Head, Opened, blank_head, head_of, and_then}
use Rattle.fleet_plans.specs.Places.{covers, places_of}
use Rattle.fleet_plans.specs.Tracks.{tracks_of, AreWalked}

-- what a text's lines are: placements, or starts with a track a robot
pub data Solution : Type 0 where
  Placed : List (List ℕ) → Solution
  Walked : List ℕ → List (List ℕ) → Solution

-- what a text is: the robots' goals, `None` where it names none, and its solution
pub record Source : Type 0 where
  pub goals : Option (List ℕ)
  pub solution : Solution

-- a plan of placements, with the goals of its head
abbrev pub placed : Head → List (List ℕ) → Source
placed head places = record { goals = head.goals; solution = Placed places }

-- a plan of moves from these starts, with the goals of its head
abbrev pub walked : Head → List ℕ → List (List ℕ) → Source
walked head starts tracks = record { goals = head.goals; solution = Walked starts tracks }

-- a solution of moves needs starts, and each robot a goal where the head names any; else the line before its first is at fault
abbrev pub from_starts : Head → ℕ → List (List ℕ) → Option (List ℕ) → Result Source ℕ
from_starts head number lines None = Err number
from_starts head number lines (Some starts) =
    if covers head.goals starts then and_then (tracks_of (length starts) [] number lines) (λ tracks. Ok (walked head starts tracks)) else Err number

-- a head, with the number and the lines after it
abbrev pub after : Head → ℕ → List (List ℕ) → Opened
after head number lines = record { head = head; number = number; lines = lines }

-- what the lines after a head are, or the number of the first line that may not stand
abbrev pub source_after : ℕ → ℕ → Opened → Result Source ℕ
source_after w h o =
    if unwrap_or o.head.is_moves false
    then from_starts o.head o.number o.lines o.head.starts
    else and_then (places_of w h o.head [] o.number o.lines) (λ places. Ok (placed o.head places))

-- what a text is, or the number of the first line that may not stand
abbrev pub source_of : ℕ → ℕ → List ℕ → Result Source ℕ
source_of w h text = and_then (head_of w h blank_head 1 (lines_of text)) (source_after w h)

-- the placements of a solution
abbrev pub IsSolved : ℕ → ℕ → Solution → List (List ℕ) → Type 0
IsSolved w h (Placed places) solved = solved ≡ places
IsSolved w h (Walked starts tracks) solved = AreWalked w h starts tracks solved

-- the goals and the placements of a text
pub record IsPlanOf (w h : ℕ) (source : Source) (goals : Option (List ℕ)) (places : List (List ℕ)) : Type 0 where
  pub goals_are : goals ≡ source.goals
  pub solved : IsSolved w h source.solution places

-- what was read is what the text is
abbrev pub IsReadAs : ℕ → ℕ → Result Source ℕ → Option (List ℕ) → List (List ℕ) → Type 0
IsReadAs w h read goals places = (source : Source) × (read ≡ Ok source) × IsPlanOf w h source goals places
