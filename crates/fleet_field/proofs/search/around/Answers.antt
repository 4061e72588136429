use Rattle.std.proofs.Common.{take, arith}
use Rattle.fleet_field.proofs.Labels.{around_by}
use Rattle.fleet_field.proofs.search.around.Goals as goal

pub returns-clause-around : goal.returns-clause-around
returns-clause-around g c level dist small is here s are =
    around_by c.args.stride level c.args.place c.args.mark dist c.args.labels.now (take c.args.count c.args.next.now) small is here s are c.requires.step c.requires.inside.0 (omega (arith, c.requires.inside.1, are.len))
    c.visit-north.new.labels (take c.visit-north.result c.visit-north.new.next) c.visit-east.new.labels (take c.visit-east.result c.visit-east.new.next) c.visit-south.new.labels (take c.visit-south.result c.visit-south.new.next) c.visit.new.labels (take c.visit.result c.visit.new.next)
    c.visit-north.ensures.visited c.visit-east.ensures.visited c.visit-south.ensures.visited c.visit.ensures.visited
