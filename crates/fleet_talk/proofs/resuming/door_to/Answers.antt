-- An errand stands in the door's way.
use Rattle.fleet_talk.proofs.Doors.{errand-fault}
use Rattle.fleet_talk.proofs.resuming.door_to.Goals as goal

pub returns-in-Some-clause-fault : goal.returns-in-Some-clause-fault
returns-in-Some-clause-fault g c = errand-fault c.args.world.now.core c.args.door c.in_ok-door.door c.in_ok-errand.field-0 c.in-Some.errand c.in_ok-door.was c.in_ok-errand.ensures.found c.in-Some.is
