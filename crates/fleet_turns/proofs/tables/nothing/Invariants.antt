use Rattle.std.proofs.Common.{◌≡◌, ◌≤◌, None, replicate, vec_len, vec_capacity}
use Rattle.fleet_turns.proofs.tables.nothing.Given as goal

abbrev pub invariant-loop-robot : goal.invariant-loop-robot
invariant-loop-robot g l = record {
  list : l.list.items ≡ replicate l._robot None;
  len : vec_len l.list ≡ l._robot;
  room : l.robots ≤ vec_capacity l.list;
}
