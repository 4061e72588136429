-- A table of slots, each empty or with a robot. A cell is looked for from one slot on.
use Rattle.std.specs.Prelude.{◌≡◌, ℕ, zero, suc, ◌+◌, ◌-◌, ◌*◌, ◌/◌, ◌%◌, ◌^◌, ◌<◌, Bool, List, length, slice_index, slice_get, Option, Some, None, if◌then◌else◌, nat_lt, ◌==◌, ◌&&◌}

-- the slot from which on a cell is looked for in a table of n slots
abbrev pub first_slot : ℕ → ℕ → ℕ
first_slot n cell = (cell * 2654435769) % 2 ^ 32 * (n - 16) % 2 ^ 64 / 2 ^ 32

-- by what is in a slot: the robot that moves to the cell; no robot, if the slot is empty; else what is found from the next slot on
abbrev pub found_by : List ℕ → ℕ → Option ℕ → ℕ → ℕ
found_by to cell None next = length to
found_by to cell (Some robot) next = if nat_lt robot (length to) then (if slice_index to robot == cell then robot else next) else length to

-- the robot that moves to the cell, looked for in n slots from the slot `at` on; `length to` if there is none
unfoldable pub found_in : List ℕ → List ℕ → ℕ → ℕ → ℕ → ℕ
found_in slots to cell at zero = length to
found_in slots to cell at (suc n) = found_by to cell (slice_get slots at) (found_in slots to cell (at + 1) n)

-- the robot that is found for a cell
unfoldable pub found : List ℕ → List ℕ → ℕ → ℕ
found slots to cell = found_in slots to cell (first_slot (length slots) cell) 16

-- each of the first n robots is found for the cell to which it moves
abbrev pub AreFound : List ℕ → List ℕ → ℕ → Type 0
AreFound slots to n = (k : ℕ) → k < n → found slots to (slice_index to k) ≡ k

-- this robot, of a lower number, exchanges its cell with the robot
abbrev pub is_swap_with : List ℕ → List ℕ → ℕ → ℕ → Bool
is_swap_with from to robot other = nat_lt other robot && (slice_index to other == slice_index from robot) && (slice_index from other == slice_index to robot)

-- a robot of a lower number exchanges its cell with the robot
abbrev pub is_swap : List ℕ → List ℕ → List ℕ → ℕ → Bool
is_swap slots from to robot = is_swap_with from to robot (found slots to (slice_index from robot))
