-- The solution of a plan's text, as one line of move letters a robot: u (north), d (south), l (west), r (east), w (waits).
-- After its last letter a robot waits.
use Rattle.std.specs.Prelude.{◌≡◌, ℕ, ◌+◌, ◌-◌, ◌*◌, ◌%◌, ◌<◌, ◌⊎◌, Bool, List, [], ◌∷◌, ◌++◌, length, slice_index, slice_index_or, Option, Some, None, Result, Ok, Err, nat_lt, nat_le, ◌==◌, ◌||◌, ◌&&◌, if◌then◌else◌}
use Rattle.std.specs.List.{list_all}
use Rattle.fleet_plans.specs.Head.{or_line, and_then}
use Rattle.fleet_plans.specs.Valid.{place_at}

-- whether the byte is the letter of a move
abbrev pub is_move : ℕ → Bool
is_move b = (b == 117) || (b == 100) || (b == 108) || (b == 114) || (b == 119)

-- the tracks with one more line
abbrev pub with_track : ℕ → List (List ℕ) → List ℕ → Option (List (List ℕ))
with_track robots tracks line = if nat_lt (length tracks) robots && list_all is_move line then Some (tracks ++ line ∷ []) else None

-- the lines numbered from this one on; where robots are left without one, the line after the last is at fault
unfoldable pub tracks_of : ℕ → List (List ℕ) → ℕ → List (List ℕ) → Result (List (List ℕ)) ℕ
tracks_of robots tracks number [] = if length tracks == robots then Ok tracks else Err number
tracks_of robots tracks number (line ∷ lines) = and_then (or_line number (with_track robots tracks line)) (λ more. tracks_of robots more (number + 1) lines)

-- where a move leads; outside of the map, to no cell, where a robot stays
abbrev pub moved : ℕ → ℕ → ℕ → ℕ → ℕ
moved w h cell letter =
    if nat_le (w * h) cell then cell
    else if letter == 117 then (if nat_lt cell w then 4294967295 else cell - w)
    else if letter == 100 then (if nat_lt (cell + w) (w * h) then cell + w else 4294967295)
    else if letter == 108 then (if cell % w == 0 then 4294967295 else cell - 1)
    else if letter == 114 then (if (cell + 1) % w == 0 then 4294967295 else cell + 1)
    else cell

-- the robot's letter for the step from time t on
abbrev pub letter_at : List (List ℕ) → ℕ → ℕ → ℕ
letter_at tracks r t = slice_index_or (slice_index_or tracks r []) t 119

-- the step from a time on
pub record IsMoved (w h : ℕ) (tracks : List (List ℕ)) (t : ℕ) (from to : List ℕ) : Type 0 where
  pub same_length : length to ≡ length from
  pub each : (r : ℕ) → r < length from → slice_index to r ≡ moved w h (slice_index from r) (letter_at tracks r t)

-- the placements of robots that begin at these cells and go by these tracks, to the end of the longest
pub record AreWalked (w h : ℕ) (starts : List ℕ) (tracks places : List (List ℕ)) : Type 0 where
  pub begin : place_at places 0 ≡ starts
  pub step : (t : ℕ) → t + 1 < length places → IsMoved w h tracks t (place_at places t) (place_at places (t + 1))
  pub whole : (r : ℕ) → r < length tracks → length (slice_index_or tracks r []) < length places
  pub no_more : (length places ≡ 1) ⊎ ((r : ℕ) × (r < length tracks) × (length (slice_index_or tracks r []) + 1 ≡ length places))
