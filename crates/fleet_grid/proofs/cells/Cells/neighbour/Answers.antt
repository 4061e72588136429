-- The floor cell next to another.
use Rattle.std.proofs.Common.{sym}
use Rattle.fleet_grid.proofs.cells.Cells.neighbour.Goals as goal

pub returns-then-is_floor : goal.returns-then-is_floor
returns-then-is_floor g c =
    record {
      from = sym c.if-not-is_floor.ensures;
      to = sym c.if-is_floor.ensures;
      beside = c.in_ok-other.ensures;
    }
