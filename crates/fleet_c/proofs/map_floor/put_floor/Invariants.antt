use Rattle.std.proofs.Common.{◌≡◌, ◌++◌, length, take, drop}
use Rattle.std.specs.Prelude.{filter}
use Rattle.std.specs.List.{range_with_len}
use Rattle.fleet_grid.specs.Floor.{is_floor}
use Rattle.fleet_c.proofs.map_floor.put_floor.Given as goal

abbrev pub invariant-loop-cell : goal.invariant-loop-cell
invariant-loop-cell l =
    (l.at ≡ length (filter (is_floor l.grid) (take l.cell (range_with_len 0 (length l.grid.letters)))))
    × (l.cells ≡ filter (is_floor l.grid) (take l.cell (range_with_len 0 (length l.grid.letters))) ++ drop l.at l.fn.cells)
