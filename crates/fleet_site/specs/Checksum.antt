-- The checksum of a map.
use Rattle.std.specs.Prelude.{ℕ, zero, suc, ◌+◌, ◌*◌, ◌%◌, Bool, length, if◌then◌else◌}
use Rattle.fleet_grid.specs.Floor.{Floor, is_floor}

-- the number below which all sums stay
abbrev pub modulus : ℕ
modulus = 9007199254740881

-- the sum of the sides
abbrev pub first_sum : ℕ → ℕ → ℕ
first_sum height width = (height * 65537 + width) % modulus

-- the sum with one more cell, by whether that is floor
abbrev pub after_cell : ℕ → Bool → ℕ
after_cell sum is_floor = (sum * 257 + (if is_floor then 2 else 1)) % modulus

-- the sum of the sides and the cells below this one
abbrev pub sum_of : Floor → ℕ → ℕ
sum_of m zero = first_sum m.height m.width
sum_of m (suc cell) = after_cell (sum_of m cell) (is_floor m cell)

-- the checksum of a map: of its sides, and of which cells are floor
abbrev pub checksum : Floor → ℕ
checksum m = sum_of m (length m.letters)
