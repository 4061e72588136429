use Rattle.std.proofs.Common.{refl, subst}
use Rattle.fleet_c.specs.Floors.{IsShape}
use Rattle.fleet_c.proofs.map_calls.nashirudder_map_shape.Goals as goal

pub returns-clause-says : goal.returns-clause-says
returns-clause-says c = rw (c.in-Some.ensures.taken, c.put.ensures) (refl, (refl, subst (λ m. IsShape m c.of.result) c.deref.ensures c.of.ensures))
