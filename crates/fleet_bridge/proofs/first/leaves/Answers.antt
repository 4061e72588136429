use Rattle.fleet_bridge.proofs.Rounds.{crossed_at}
use Rattle.fleet_bridge.proofs.first.leaves.Goals as goal

pub returns : goal.returns
returns g c = λ outside. crossed_at c.args.sides.now c.args.tree.now c.args.cell c.args.inner c.in-Some.outer c.args.dir c.requires.under c.in-Some.ensures
    (c.is_step_up.ensures c.if-is_step_up.false) (c.is_outside.ensures outside)
