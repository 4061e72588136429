use Rattle.std.proofs.Common.{◌≡◌, ◌≤◌, length, map, vec_len, vec_capacity}
use Rattle.std.specs.List.{range_with_len}
use Rattle.fleet_core.specs.Core.{robot_at}
use Rattle.fleet_core.proofs.opening.robots_at.Given as goal

abbrev pub invariant-loop-r : goal.invariant-loop-r
invariant-loop-r g l = record {
  robots : l.robots.items ≡ map (robot_at l.starts l.arrivals l.farewells) (range_with_len 0 l.r);
  len : vec_len l.robots ≡ l.r;
  room : length l.starts ≤ vec_capacity l.robots;
}
