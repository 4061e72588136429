-- The goal of the field.
use Rattle.std.proofs.Common.{ap}
use Rattle.fleet_field.specs.Field.{Aim}
use Rattle.fleet_field.proofs.field.Field.goal.Goals as goal

pub returns : goal.returns
returns g c = ap (λ (a : Aim). a.goal) c.self.view_is
