-- The refusal of a second line.
use Rattle.std.proofs.Common.{refl}
use Rattle.fleet_script.proofs.head.set_once.Goals as goal

pub returns-in-Some-clause-set : goal.returns-in-Some-clause-set
returns-in-Some-clause-set g c = rw c.in-Some.is refl
