use Rattle.fleet_grid.proofs.Rounds.{same_label_is}
use Rattle.std.proofs.Common.{arith}
use Rattle.fleet_grid.proofs.Forms.{floor_inside}
use Rattle.fleet_grid.proofs.parts.is_same_part.Goals as goal

pub returns : goal.returns
returns g c = same_label_is c.args.cells.now c.args.labels.now c.args.a c.args.b c.requires.parts c.requires.a c.requires.b

pub bounds-labels-a : goal.bounds-labels-a
bounds-labels-a g c = omega (arith, floor_inside c.args.cells.now c.args.a c.requires.a, c.requires.parts.len)

pub bounds-labels-b : goal.bounds-labels-b
bounds-labels-b g c = omega (arith, floor_inside c.args.cells.now c.args.b c.requires.b, c.requires.parts.len)
