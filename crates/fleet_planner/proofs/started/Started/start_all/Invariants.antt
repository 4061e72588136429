use Rattle.std.proofs.Common.{◌≡◌, map, take, vec_len, vec_capacity}
use Rattle.fleet_planner.specs.Courses.{growth_in}
use Rattle.fleet_planner.specs.inside.Started.{AreStarts, shared_parts}
use Rattle.fleet_planner.proofs.started.Started.start_all.Given as goal

abbrev pub invariant-loop-at : goal.invariant-loop-at
invariant-loop-at g l = record {
  starts : AreStarts l.grid (take l.at l.turns) (map growth_in l.self.own.items);
  shared : l.self.shared.items ≡ shared_parts (take l.at l.turns) (map growth_in l.self.own.items);
  len_shared : vec_len l.self.shared ≡ l.at;
  len_own : vec_len l.self.own ≡ l.at;
  room_shared : vec_capacity l.self.shared ≡ vec_capacity l.fn.self.shared;
  room_own : vec_capacity l.self.own ≡ vec_capacity l.fn.self.own;
}
