use Rattle.fleet_pibt.proofs.Doors.{stepped-same, way-same}
use Rattle.fleet_pibt.proofs.law.steps_without_door.Goals as goal

pub returns : goal.returns
returns c = record { stepped = stepped-same; way = way-same }
