-- Steps that are not reached.
use Rattle.std.proofs.Common.{arith}
use Rattle.fleet_execution.proofs.state.State.behind.Goals as goal

pub place-requires : goal.place-requires
place-requires g c = c.requires.some

pub get-requires : goal.get-requires
get-requires g c = omega (arith, c.requires.some, c.requires.unreached, c.place.ensures)
