use Rattle.fleet_grid.specs.Floor.{IsNeighbour}
use Rattle.fleet_bridge.proofs.Rounds.{near_turn}
use Rattle.fleet_bridge.proofs.Serving.{roomy_block, room_around}
use Rattle.fleet_bridge.proofs.law.cores_serve.Goals as goal

pub returns-clause-block : goal.returns-clause-block
returns-clause-block c = λ m. roomy_block (IsNeighbour m) (near_turn m)

pub returns-clause-room : goal.returns-clause-room
returns-clause-room c = λ m. room_around (IsNeighbour m) (near_turn m)
