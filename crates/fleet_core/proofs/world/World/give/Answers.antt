-- The world without the notice that it gave.
use Rattle.std.proofs.Common.{rules}
use Rattle.fleet_core.proofs.world.World.give.Goals as goal

pub returns-clause-rest : goal.returns-clause-rest
returns-clause-rest g c = search rules
