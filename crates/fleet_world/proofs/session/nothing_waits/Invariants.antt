use Rattle.std.proofs.Common.{◌≡◌, ◌≤◌, replicate, vec_len, vec_capacity}
use Rattle.fleet_world.specs.Talk.{none_waiting}
use Rattle.fleet_world.proofs.session.nothing_waits.Given as goal

abbrev pub invariant-loop-i : goal.invariant-loop-i
invariant-loop-i g l = record {
  items : l.waiting.items ≡ replicate l._i none_waiting;
  len : vec_len l.waiting ≡ l._i;
  room : l.count ≤ vec_capacity l.waiting;
}
