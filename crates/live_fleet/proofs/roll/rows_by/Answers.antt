-- One more row.
use Rattle.std.proofs.Common.{◌∙◌, ◌+◌, List, [], ◌∷◌, ◌++◌, map, ap, sym, arith}
use Rattle.std.proofs.lemmas.List.FromFn.{map-range_with_len_more}
use Rattle.std.specs.List.{range_with_len}
use Rattle.live_fleet.specs.declared.robots.RobotRow.{RobotRow}
use Rattle.live_fleet.specs.Robots.{row_of}
use Rattle.live_fleet.proofs.roll.rows_by.Goals as goal

pub loop-robot-preserved : goal.loop-robot-preserved
loop-robot-preserved g c =
    let w = c.args.session.now.world.core in
    let front : List RobotRow = map {B = RobotRow} (row_of w) (range_with_len 0 c.loop-robot.robot) in
    record {
      items = c.push_reserved.ensures.items ∙ (ap (λ (l : List RobotRow). l ++ c.row_of.result ∷ []) c.loop-robot.invariant.items
          ∙ (ap (λ (x : RobotRow). front ++ x ∷ []) c.row_of.ensures ∙ sym (map-range_with_len_more (row_of w) 0 c.loop-robot.robot c.loop-robot.robot (omega arith))));
      len = c.push_reserved.ensures.len ∙ ap (λ n. n + 1) c.loop-robot.invariant.len;
      room = rw c.push_reserved.ensures.capacity c.loop-robot.invariant.room;
    }
