use Rattle.std.proofs.Common.{◌≡◌, ◌≤◌, false, replicate, vec_len, vec_capacity}
use Rattle.fleet_roomy.proofs.full.no_marks.Given as goal

abbrev pub invariant-loop-robot : goal.invariant-loop-robot
invariant-loop-robot g l = record {
  marks : l.seen.items ≡ replicate l._robot false;
  len : vec_len l.seen ≡ l._robot;
  room : l.robots ≤ vec_capacity l.seen;
}
