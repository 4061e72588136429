-- Few are all.
use Rattle.std.proofs.Common.{arith}
use Rattle.fleet_view.proofs.Signs.{all-taken}
use Rattle.fleet_view.proofs.runs.first_of.Goals as goal

pub returns-else-conflicts-most : goal.returns-else-conflicts-most
returns-else-conflicts-most c = all-taken c.args.most c.args.conflicts.now (omega (arith, c.if-conflicts-most.false))
