-- What a robot next to the door sees.
use Rattle.std.proofs.Common.{◌≡◌, Option, sym, subst, ◌∙◌}
use Rattle.fleet_pibt.specs.inside.Around.{IsAround}
use Rattle.fleet_pibt.specs.declared.around.Around.{Around}
use Rattle.fleet_pibt.specs.declared.door.Door.{Door}
use Rattle.fleet_pibt.proofs.Spots.{around-without}
use Rattle.fleet_pibt.proofs.around.with_door.Goals as goal

pub returns-clause-cells : goal.returns-clause-cells
returns-clause-cells c m own cells =
    let door = c.in-Some.door in
    let here : door.from ≡ own = sym c.if-around-door.false ∙ cells.here in
    let new : Around = record {
      own = c.args.around.own;
      north = c.unless_shut.result;
      east = c.unless_shut-2.result;
      south = c.unless_shut-3.result;
      west = c.unless_shut-4.result;
      nearer = c.args.around.nearer;
      exits = c.args.around.exits;
    } in
    subst (λ (o : Option Door). IsAround m o own new) (sym c.in-Some.is)
    (around-without m door own c.args.around new here cells cells.here
    (c.unless_shut.ensures.shut, c.unless_shut.ensures.open) (c.unless_shut-2.ensures.shut, c.unless_shut-2.ensures.open)
    (c.unless_shut-3.ensures.shut, c.unless_shut-3.ensures.open) (c.unless_shut-4.ensures.shut, c.unless_shut-4.ensures.open))
