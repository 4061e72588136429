-- The cell next to, and the own cell where the way is shut.
use Rattle.std.proofs.Common.{ap, arith, ◌∙◌}
use Rattle.fleet_grid.specs.Floor.{cell_across}
use Rattle.fleet_grid.proofs.Forms.{floor_inside, few_cells}
use Rattle.fleet_pibt.proofs.Spots.{spot_shut, spot_open}
use Rattle.fleet_pibt.proofs.around.spot.Goals as goal

pub returns : goal.returns
returns g c =
    spot_open c.args.grid.now c.args.own c.args.exits.byte c.across.result c.args.dir c.requires.exits (c.has.ensures.0 c.if-not-has.false)
    (c.across.ensures ∙ ap (λ (width : _). cell_across width c.args.own c.args.dir) c.requires.width)

pub returns-then-not-has : goal.returns-then-not-has
returns-then-not-has g c = spot_shut c.args.grid.now c.args.own c.args.exits.byte c.args.dir c.requires.exits (λ way. cc (c.has.ensures.1 way, c.if-not-has.true))

pub across-requires-clause-slim : goal.across-requires-clause-slim
across-requires-clause-slim g c = omega (arith, c.requires.width, c.requires.form.slim)

pub across-requires-clause-small : goal.across-requires-clause-small
across-requires-clause-small g c =
    let inside = floor_inside c.args.grid.now c.args.own c.requires.floor in
    let few = few_cells c.args.grid.now c.requires.form in
    omega (arith, inside, few)
