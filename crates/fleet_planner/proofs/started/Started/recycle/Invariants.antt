use Rattle.std.proofs.Common.{◌≡◌, length, vec_capacity}
use Rattle.fleet_planner.proofs.started.Started.recycle.Given as goal

abbrev pub invariant-loop-item : goal.invariant-loop-item
invariant-loop-item g l = record {
  room_shared : vec_capacity l.self.shared ≡ vec_capacity l.fn.self.shared;
  room_own : vec_capacity l.self.own ≡ vec_capacity l.fn.self.own;
}

abbrev pub decreases-loop-item : goal.decreases-loop-item
decreases-loop-item g l = length l.self.own.items
