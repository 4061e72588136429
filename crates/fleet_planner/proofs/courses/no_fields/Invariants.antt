use Rattle.std.proofs.Common.{◌≡◌, ◌≤◌, None, replicate, vec_len, vec_capacity}
use Rattle.fleet_planner.proofs.courses.no_fields.Given as goal

abbrev pub invariant-loop-robot : goal.invariant-loop-robot
invariant-loop-robot g l = record {
  fields : l.fields.items ≡ replicate l._robot None;
  len : vec_len l.fields ≡ l._robot;
  room : l.robots ≤ vec_capacity l.fields;
}
