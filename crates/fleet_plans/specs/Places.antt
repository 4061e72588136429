-- The solution of a plan's text, as one line TIME:CELLS a time, from 0 on.
use Rattle.std.specs.Prelude.{ℕ, ◌+◌, Bool, true, false, List, [], ◌∷◌, ◌++◌, length, Option, Some, None, Result, Ok, Err, min, ◌==◌, ◌&&◌, if◌then◌else◌}
use Rattle.std.specs.Option.{option_and_then}
use Rattle.std.specs.Str.{bytes_eq}
use Rattle.fleet_map.specs.Text.{number_of}
use Rattle.fleet_plans.specs.Cells.{parts_of, listed_in}
use Rattle.fleet_plans.specs.Head.{Head, split_once, or_line, and_then}

-- whether that is this number; those from 2^32 on are alike, since no text has as many lines
abbrev pub is_number : ℕ → Option ℕ → Bool
is_number n None = false
is_number n (Some x) = min x 4294967296 == n

-- the cells of a line of this time
abbrev pub place_in : ℕ → ℕ → ℕ → Option (List ℕ × List ℕ) → Option (List ℕ)
place_in w h time None = None
place_in w h time (Some p) = if is_number time (number_of p.0) then listed_in w h (parts_of p.1) else None

-- where the head names the starts, the robots are there at time 0
abbrev pub agrees : Option (List ℕ) → List ℕ → Bool
agrees None place = true
agrees (Some starts) place = bytes_eq starts place

-- where the head names goals, each robot has one
abbrev pub covers : Option (List ℕ) → List ℕ → Bool
covers None place = true
covers (Some goals) place = length goals == length place

-- whether the first placement is as the head says
abbrev pub begins : Head → List ℕ → Bool
begins head place = agrees head.starts place && covers head.goals place

-- the placements with one more; the first one has to be as the head says
abbrev pub with_place : Head → List (List ℕ) → List ℕ → Option (List (List ℕ))
with_place head [] place = if begins head place then Some (place ∷ []) else None
with_place head (first ∷ places) place = Some ((first ∷ places) ++ place ∷ [])

-- the placements with one more line; an empty line says nothing
abbrev pub with_step : ℕ → ℕ → Head → List (List ℕ) → List ℕ → Option (List (List ℕ))
with_step w h head places [] = Some places
with_step w h head places (b ∷ bs) = option_and_then (with_place head places) (place_in w h (length places) (split_once 58 (b ∷ bs)))

-- the lines numbered from this one on; without a placement the line after the last is at fault
unfoldable pub places_of : ℕ → ℕ → Head → List (List ℕ) → ℕ → List (List ℕ) → Result (List (List ℕ)) ℕ
places_of w h head [] number [] = Err number
places_of w h head (place ∷ places) number [] = Ok (place ∷ places)
places_of w h head places number (line ∷ lines) = and_then (or_line number (with_step w h head places line)) (λ more. places_of w h head more (number + 1) lines)
