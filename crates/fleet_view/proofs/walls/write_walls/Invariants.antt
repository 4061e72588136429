use Rattle.std.proofs.Common.{◌≡◌, ◌++◌, drop, string_bytes}
use Rattle.fleet_view.specs.Picture.{walls_from}
use Rattle.fleet_view.proofs.walls.write_walls.Given as goal

abbrev pub invariant-loop-cell : goal.invariant-loop-cell
invariant-loop-cell l = string_bytes l.out ++ walls_from l.width l.cell (drop l.cell l.letters) ≡ string_bytes l.fn.out ++ walls_from l.width 0 l.letters
