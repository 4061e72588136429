-- The byte of the cell among the map's ways.
use Rattle.std.proofs.Common.{arith}
use Rattle.fleet_grid.proofs.Forms.{floor_inside}
use Rattle.fleet_grid.proofs.grid.Grid.exits.Goals as goal

pub bounds-ways-cell : goal.bounds-ways-cell
bounds-ways-cell g c =
    let inside = floor_inside c.args.self.now c.args.cell c.requires in
    omega (arith, inside, c.ways-ways.ensures.ways.size)

pub returns : goal.returns
returns g c = c.ways-ways.ensures.ways.each c.args.cell (floor_inside c.args.self.now c.args.cell c.requires)
