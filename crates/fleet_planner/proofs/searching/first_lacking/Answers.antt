use Rattle.std.proofs.Common.{ℕ, ◌<◌, None, map, slice_index, slice_index_or}
use Rattle.fleet_planner.specs.Courses.{growth_in}
use Rattle.fleet_planner.specs.Searched.{IsTold}
use Rattle.fleet_planner.proofs.Told.{each_more}
use Rattle.fleet_planner.proofs.searching.first_lacking.Goals as goal

pub loop-robot-preserved : goal.loop-robot-preserved
loop-robot-preserved g c =
    each_more (λ (r : ℕ). IsTold c.args.grid.now (slice_index_or (map growth_in c.args.own.now) r None) (slice_index c.args.cells.now r)) c.loop-robot.robot c.loop-robot.invariant (c.lacks_at.ensures.told c.if-lacks_at.false)
