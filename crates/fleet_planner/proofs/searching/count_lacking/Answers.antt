use Rattle.std.proofs.Common.{◌≡◌, ℕ, ◌<◌, ◌≤◌, None, map, slice_index, slice_index_or, sym, ◌∙◌, arith}
use Rattle.fleet_planner.specs.Courses.{growth_in}
use Rattle.fleet_planner.specs.Searched.{IsTold}
use Rattle.fleet_planner.proofs.Told.{each_more}
use Rattle.fleet_planner.proofs.searching.count_lacking.Goals as goal
use Rattle.fleet_planner.proofs.searching.count_lacking.Goals.{then-lacks_at, else-lacks_at}

pub loop-robot-preserved : goal.loop-robot-preserved
loop-robot-preserved g c =
    let known = c.loop-robot-test.true in
    elim c.if-lacks_at.branch [
      | then-lacks_at w ↦ record {
        none = λ zero. (let is = w.count-is in absurd (omega (arith, zero, is)));
        some = λ more. (c.loop-robot.robot, record { known = known; untold = c.lacks_at.ensures.untold w.if-lacks_at.true });
        few = (let is = w.count-is in let few = c.loop-robot.invariant.few in omega (arith, is, few));
      }
      | else-lacks_at w ↦ record {
        none = λ zero.
            each_more (λ (r : ℕ). IsTold c.args.grid.now (slice_index_or (map growth_in c.args.own.now) r None) (slice_index c.args.cells.now r)) c.loop-robot.robot (c.loop-robot.invariant.none (sym w.count-is ∙ zero))
            (c.lacks_at.ensures.told w.if-lacks_at.false);
        some = λ more. c.loop-robot.invariant.some (let is = w.count-is in omega (arith, more, is));
        few = (let is = w.count-is in let few = c.loop-robot.invariant.few in omega (arith, is, few));
      }
    ]
