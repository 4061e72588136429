use Rattle.fleet_field.proofs.Made.{made_all}
use Rattle.fleet_field.proofs.compasses.compasses.Goals as goal

pub returns : goal.returns
returns g c = made_all c.args.grid.now c.args.goals.now (λ v. v.items) c.of_each.result c.requires c.of_each.ensures
