-- The rows of the robots so far.
use Rattle.std.proofs.Common.{◌≡◌, ◌≤◌, map, vec_len, vec_capacity}
use Rattle.std.specs.List.{range_with_len}
use Rattle.live_fleet.specs.Robots.{row_of}
use Rattle.live_fleet.proofs.roll.rows_by.Given as goal

abbrev pub invariant-loop-robot : goal.invariant-loop-robot
invariant-loop-robot g l = record {
  items : l.rows.items ≡ map (row_of l.session.world.core) (range_with_len 0 l.robot);
  len : vec_len l.rows ≡ l.robot;
  room : l.count ≤ vec_capacity l.rows;
}
