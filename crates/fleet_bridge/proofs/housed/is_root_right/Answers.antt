use Rattle.std.proofs.Common.{sym, ◌∙◌}
use Rattle.std.specs.Prelude.{slice_index}
use Rattle.fleet_grid.specs.Floor.{IsFloor, IsNeighbour}
use Rattle.fleet_bridge.proofs.Doors.{root_housed}
use Rattle.fleet_bridge.proofs.housed.is_root_right.Goals as goal

pub returns : goal.returns
returns g c = λ fits.
    let m = c.args.sides.now in
    let t = c.args.tree.now in
    let l = c.args.layout.now in
    root_housed (IsNeighbour m) (IsFloor m) (slice_index t.up.items) (slice_index t.number.items) (slice_index t.end.items) (slice_index t.far.items) (slice_index t.top.items) (slice_index l.door.items) (slice_index l.first.items) (slice_index l.second.items) (slice_index l.most.items)
    c.args.cell c.requires (sym c.read.ensures ∙ c.if-read-cell.false) (c.is_counted.ensures c.if-not-is_counted.false) (c.is_fitting.ensures fits)
