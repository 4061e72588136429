use Rattle.fleet_bridge.proofs.Serving.{core_roomy, room_served, room_inside, all_served}
use Rattle.fleet_bridge.proofs.law.rooms_serve.Goals as goal

pub returns-clause-core : goal.returns-clause-core
returns-clause-core c = core_roomy

pub returns-clause-room : goal.returns-clause-room
returns-clause-room c = room_served

pub returns-clause-inside : goal.returns-clause-inside
returns-clause-inside c = room_inside

pub returns-clause-served : goal.returns-clause-served
returns-clause-served c = all_served
