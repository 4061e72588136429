-- The fleet is planned so, on the map of its door.
use Rattle.fleet_world.specs.Keeps.{talk}
use Rattle.fleet_talk.proofs.Manners.{known-as}
use Rattle.fleet_live.proofs.manner.planned_fleet.Goals as goal

pub returns-in-Ok-clause-door : goal.returns-in-Ok-clause-door
returns-in-Ok-clause-door g c =
    known-as (talk c.in-Ok.fleet.0) (talk c.args.session) c.in-Ok.fleet.0.world.core.turns c.in-Ok.fleet.1 c.args.door c.in-Ok.ensures.same c.in-Ok.ensures.door c.requires.door
