-- The robots up to this one are placed.
use Rattle.std.proofs.Common.{ℕ, [], slice_index_or, arith}
use Rattle.fleet_plans.specs.Paths.{path_at}
use Rattle.fleet_plans.proofs.Walks.{set_more}
use Rattle.fleet_plans.proofs.follow.place_all.Goals as goal

pub loop-robot-preserved : goal.loop-robot-preserved
loop-robot-preserved c =
    let f = λ (r : ℕ). path_at (slice_index_or c.args.paths.now r []) c.args.time in
    set_more f c.loop-robot.place c.loop-robot.robot c.cell_of.result (omega arith) c.loop-robot.invariant c.cell_of.ensures
