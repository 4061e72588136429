use Rattle.std.proofs.Common.{arith}
use Rattle.fleet_bridge.proofs.Steps.{spot_around}
use Rattle.fleet_bridge.proofs.places.across.Goals as goal

pub overflow_sub-result : goal.overflow_sub-result
overflow_sub-result g c =
    let p = c.args.places.now in
    let x = spot_around p.grid.now p.stride p.list.now c.requires.laid_out.form c.requires.laid_out.padded c.args.spot.cell c.args.spot.place c.requires.spot.floor c.requires.spot.at in
    omega (arith, x, c.requires.laid_out.wide)

pub overflow_add-result : goal.overflow_add-result
overflow_add-result g c =
    let p = c.args.places.now in
    let x = spot_around p.grid.now p.stride p.list.now c.requires.laid_out.form c.requires.laid_out.padded c.args.spot.cell c.args.spot.place c.requires.spot.floor c.requires.spot.at in
    omega (arith, x, c.requires.laid_out.wide)

pub overflow_add-result-in-South : goal.overflow_add-result-in-South
overflow_add-result-in-South g c =
    let p = c.args.places.now in
    let x = spot_around p.grid.now p.stride p.list.now c.requires.laid_out.form c.requires.laid_out.padded c.args.spot.cell c.args.spot.place c.requires.spot.floor c.requires.spot.at in
    omega (arith, x, c.requires.laid_out.wide)

pub overflow_sub-result-in-West : goal.overflow_sub-result-in-West
overflow_sub-result-in-West g c =
    let p = c.args.places.now in
    let x = spot_around p.grid.now p.stride p.list.now c.requires.laid_out.form c.requires.laid_out.padded c.args.spot.cell c.args.spot.place c.requires.spot.floor c.requires.spot.at in
    omega (arith, x, c.requires.laid_out.wide)
