use Rattle.std.proofs.Common.{take}
use Rattle.fleet_field.proofs.Spread.{around_extends, around_reached}
use Rattle.fleet_field.proofs.flood.around.Goals as goal

pub returns-clause-extends : goal.returns-clause-extends
returns-clause-extends c =
    around_extends c.args.stride c.args.level c.args.cell c.args.dist.now (take c.args.count c.args.next.now) c.visit-north.new.dist (take c.visit-north.result c.visit-north.new.next) c.visit-east.new.dist (take c.visit-east.result c.visit-east.new.next)
    c.visit-south.new.dist (take c.visit-south.result c.visit-south.new.next) c.visit.new.dist (take c.visit.result c.visit.new.next) c.requires.small c.requires.step c.requires.inside.0 c.requires.inside.1
    c.visit-north.ensures.len c.visit-east.ensures.len c.visit-south.ensures.len c.visit-north.ensures.visit c.visit-east.ensures.visit c.visit-south.ensures.visit c.visit.ensures.visit c.requires.search c.requires.at

pub returns-clause-reached : goal.returns-clause-reached
returns-clause-reached c =
    around_reached c.args.stride c.args.level c.args.cell c.args.dist.now (take c.args.count c.args.next.now) c.visit-north.new.dist (take c.visit-north.result c.visit-north.new.next) c.visit-east.new.dist (take c.visit-east.result c.visit-east.new.next)
    c.visit-south.new.dist (take c.visit-south.result c.visit-south.new.next) c.visit.new.dist (take c.visit.result c.visit.new.next) c.requires.small c.requires.step c.requires.inside.0 c.requires.inside.1
    c.visit-north.ensures.len c.visit-east.ensures.len c.visit-south.ensures.len c.visit-north.ensures.visit c.visit-east.ensures.visit c.visit-south.ensures.visit c.visit.ensures.visit c.requires.search c.requires.at
