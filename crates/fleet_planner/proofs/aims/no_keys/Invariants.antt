use Rattle.std.proofs.Common.{◌≡◌, ◌≤◌, None, replicate, vec_len, vec_capacity}
use Rattle.fleet_planner.proofs.aims.no_keys.Given as goal

abbrev pub invariant-loop-robot : goal.invariant-loop-robot
invariant-loop-robot g l = record {
  keys : l.keys.items ≡ replicate l._robot None;
  len : vec_len l.keys ≡ l._robot;
  room : l.robots ≤ vec_capacity l.keys;
}
