-- The head of a plan's text: lines KEY=VALUE up to the line `solution=`. Keys that are not named here say nothing.
use Rattle.std.specs.Prelude.{ℕ, ◌+◌, Bool, true, false, List, [], ◌∷◌, take, drop, Option, Some, None, Result, Ok, Err, ◌==◌, if◌then◌else◌, codes}
use Rattle.std.specs.List.{position}
use Rattle.std.specs.Option.{option_map}
use Rattle.std.specs.Str.{bytes_eq}
use Rattle.fleet_plans.specs.Cells.{parts_of, listed_in}

-- what the lines so far said, `None` for each thing that no line said
pub record Head : Type 0 where
  -- the robots' cells before the first step, by number
  pub starts : Option (List ℕ)
  -- the robots' goals, by number
  pub goals : Option (List ℕ)
  -- whether the solution is one line of moves a robot, and not one line of cells a time
  pub is_moves : Option Bool

-- the head before its first line
abbrev pub blank_head : Head
blank_head = record { starts = None; goals = None; is_moves = None }

-- what stands before the first byte of this value, and what stands after it
abbrev pub split_once : ℕ → List ℕ → Option (List ℕ × List ℕ)
split_once byte line = option_map (λ k. (take k line, drop (k + 1) line)) (position (λ b. b == byte) line)

-- a key stands at most once
abbrev pub if_new : {A : Type 0} → Option A → Option A → Option A
if_new (Some old) said = None
if_new None said = said

-- the form of the solution, as its value names it
abbrev pub form_in : List ℕ → Option Bool
form_in value = if bytes_eq value (codes "moves") then Some true else if bytes_eq value (codes "cells") then Some false else None

-- the head with this value under this key; `None` where that may not stand
abbrev pub with_value : ℕ → ℕ → Head → List ℕ → List ℕ → Option Head
with_value w h head key value =
    if bytes_eq key (codes "starts") then option_map (λ cells. record head { starts = Some cells }) (if_new head.starts (listed_in w h (parts_of value)))
    else if bytes_eq key (codes "goals") then option_map (λ cells. record head { goals = Some cells }) (if_new head.goals (listed_in w h (parts_of value)))
    else if bytes_eq key (codes "form") then option_map (λ form. record head { is_moves = Some form }) (if_new head.is_moves (form_in value))
    else Some head

-- the head with a line's key and value; `None` where the line has none, or they may not stand
abbrev pub with_pair : ℕ → ℕ → Head → Option (List ℕ × List ℕ) → Option Head
with_pair w h head None = None
with_pair w h head (Some p) = with_value w h head p.0 p.1

-- the head with one more line; an empty line says nothing
abbrev pub with_line : ℕ → ℕ → Head → List ℕ → Option Head
with_line w h head [] = Some head
with_line w h head (b ∷ bs) = with_pair w h head (split_once 61 (b ∷ bs))

-- the value, or the number of the line where there is none
abbrev pub or_line : {A : Type 0} → ℕ → Option A → Result A ℕ
or_line number None = Err number
or_line number (Some x) = Ok x

-- the next step on what the first one gives, or the line at which the first one failed
abbrev pub and_then : {A B : Type 0} → Result A ℕ → (A → Result B ℕ) → Result B ℕ
and_then (Ok x) f = f x
and_then (Err line) f = Err line

-- the head, the number of the first line after it, and the lines from there on
pub record Opened : Type 0 where
  pub head : Head
  pub number : ℕ
  pub lines : List (List ℕ)

-- the lines numbered from this one on; without `solution=` the line after the last is at fault
unfoldable pub head_of : ℕ → ℕ → Head → ℕ → List (List ℕ) → Result Opened ℕ
head_of w h head number [] = Err number
head_of w h head number (line ∷ lines) =
    if bytes_eq line (codes "solution=") then Ok (record { head = head; number = number + 1; lines = lines })
    else and_then (or_line number (with_line w h head line)) (λ more. head_of w h more (number + 1) lines)
