use Rattle.std.proofs.Common.{Result, subst}
use Rattle.std.specs.Prelude.{IfOk}
use Rattle.fleet_grid.specs.Floor.{Floor}
use Rattle.fleet_planner.specs.Aims.{AreOn}
use Rattle.test_grid.proofs.goals.aim_and_turn_over.Goals as goal

pub aim_and_turn-requires-clause-on : goal.aim_and_turn-requires-clause-on
aim_and_turn-requires-clause-on g c =
    (subst (λ (r : Result _ _). IfOk r (λ aims. (m : Floor) → AreOn m aims)) c.expect-aims.ensures c.new.ensures.on) c.args.grid.now
