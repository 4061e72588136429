use Rattle.std.proofs.Common.{ℕ, ◌≤◌, length, arith}
use Rattle.fleet_grid.proofs.Forms.{floor_inside}
use Rattle.fleet_survey.specs.Served.{capacity_at}
use Rattle.fleet_survey.proofs.Serving.{served_none, served_more, all_served}
use Rattle.fleet_survey.proofs.served.least_capacity.Goals as goal

pub loop-cell-init : goal.loop-cell-init
loop-cell-init c = served_none c.args.grid.now (capacity_at c.args.rooms.now)

pub loop-cell-preserved : goal.loop-cell-preserved
loop-cell-preserved c = served_more c.args.grid.now (capacity_at c.args.rooms.now) c.loop-cell.cell c.loop-cell.least c.least_with-least.result c.loop-cell.invariant c.least_with-least.ensures

pub returns : goal.returns
returns c =
    let end : length c.args.grid.now.letters ≤ c.loop-cell.cell = omega (arith, c.cell_count-cell-end.ensures.value, c.loop-cell-test.false) in
    all_served c.args.grid.now c.args.rooms.now c.requires c.loop-cell.cell c.loop-cell.least (λ x floor. (let small = floor_inside c.args.grid.now x floor in omega (arith, small, end))) c.loop-cell.invariant
