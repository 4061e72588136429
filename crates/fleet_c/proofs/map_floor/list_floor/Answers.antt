use Rattle.std.proofs.Common.{arith}
use Rattle.fleet_c.proofs.FloorCells.{floor-counted, is-short, is-listed}
use Rattle.fleet_c.proofs.map_floor.list_floor.Goals as goal

pub returns-then-cells-count : goal.returns-then-cells-count
returns-then-cells-count c = is-short c.args.grid.now c.args.cells.now c.floor_count.result c.floor_count.ensures c.if-cells-count.true

pub put_floor-requires : goal.put_floor-requires
put_floor-requires c = omega (arith, floor-counted c.args.grid.now, c.floor_count.ensures, c.if-cells-count.false)

pub returns : goal.returns
returns c =
    is-listed c.args.grid.now c.args.cells.now c.put_floor.new.cells c.floor_count.result c.floor_count.ensures (omega (arith, c.if-cells-count.false)) c.put_floor.ensures
