-- The distance of two cells as a function: the least number of edges of a walk, found by trying each number.
use Rattle.std.specs.Prelude.{ℕ, zero, suc, Bool, true, false, ◌+◌, ◌%◌, ◌==◌, ◌&&◌, ◌||◌, not, Option, Some, None, length}
use Rattle.std.specs.List.{list_any, range_with_len}
use Rattle.fleet_grid.specs.Floor.{Floor, is_floor}

-- whether `b` is the cell after `a` in its row, or the one below it
abbrev pub is_next : ℕ → ℕ → ℕ → Bool
is_next width a b = ((a + 1 == b) && not (b % width == 0)) || (a + width == b)

-- whether two cells are neighbours
abbrev pub is_neighbour : Floor → ℕ → ℕ → Bool
is_neighbour m a b = is_floor m a && is_floor m b && (is_next m.width a b || is_next m.width b a)

-- whether a walk of this many edges leads from a to b
abbrev pub is_walk_long : Floor → ℕ → ℕ → ℕ → Bool
is_walk_long m zero a b = a == b
is_walk_long m (suc k) a b = list_any (λ c. is_neighbour m a c && is_walk_long m k c b) (range_with_len 0 (length m.letters))

-- the number that was found before, or else `k` if it passes; `None` where neither is there
abbrev pub or_this : Option ℕ → Bool → ℕ → Option ℕ
or_this (Some d) passes k = Some d
or_this None true k = Some k
or_this None false k = None

-- the least number below a bound that passes
abbrev pub least_below : (ℕ → Bool) → ℕ → Option ℕ
least_below p zero = None
least_below p (suc k) = or_this (least_below p k) (p k) k

-- the distance of two cells, `None` where no walk joins them; a shortest walk has fewer edges than there are cells
abbrev pub distance : Floor → ℕ → ℕ → Option ℕ
distance m a b = least_below (λ k. is_walk_long m k a b) (length m.letters)
