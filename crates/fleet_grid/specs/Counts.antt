-- How many floor cells and edges a map has.
use Rattle.std.specs.Prelude.{ℕ, ◌+◌, ◌%◌, ◌==◌, ◌&&◌, not, Bool, count_by, length}
use Rattle.std.specs.List.{range_with_len}
use Rattle.fleet_grid.specs.Floor.{Floor, is_floor_letter, is_floor}

-- how many cells of the map are floor
abbrev pub floor_count : Floor → ℕ
floor_count m = count_by is_floor_letter m.letters

-- whether an edge leads east from the cell
abbrev pub has_east : Floor → ℕ → Bool
has_east m cell = is_floor m cell && (is_floor m (cell + 1) && not ((cell + 1) % m.width == 0))

-- whether an edge leads south from the cell
abbrev pub has_south : Floor → ℕ → Bool
has_south m cell = is_floor m cell && is_floor m (cell + m.width)

-- each edge is counted at its west or its north end
abbrev pub edge_count : Floor → ℕ
edge_count m = count_by (has_east m) (range_with_len 0 (length m.letters)) + count_by (has_south m) (range_with_len 0 (length m.letters))
