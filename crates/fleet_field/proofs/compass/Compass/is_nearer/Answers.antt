-- Whether a neighbour is nearer.
use Rattle.fleet_field.proofs.Nearer.{nearer_tells}
use Rattle.fleet_field.proofs.compass.Compass.is_nearer.Goals as goal

pub returns-in-Some : goal.returns-in-Some
returns-in-Some g c = λ w beside.
    nearer_tells c.args.grid.now c.args.dir c.args.cell c.in-Some.next w c.args.self.now.away c.is_less.result c.at.result c.at-in-Some.result c.in-Some.ensures beside c.at.ensures c.at-in-Some.ensures c.is_less.ensures
