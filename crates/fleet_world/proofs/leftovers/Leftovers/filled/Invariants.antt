use Rattle.std.proofs.Common.{◌≡◌, ◌+◌, ◌≤◌, map, vec_len, vec_capacity}
use Rattle.std.specs.Vec.Iter.{into_iter_len}
use Rattle.fleet_world.proofs.leftovers.Leftovers.filled.Given as goal

abbrev pub invariant-loop-client : goal.invariant-loop-client
invariant-loop-client g l = record {
  lanes : map (λ v. v.items) l.lanes.items ≡ map (λ w. w.lane) l.yielded;
  outlets : map (λ v. v.items) l.outlets.items ≡ map (λ w. w.outlet) l.yielded;
  lane_room : vec_len l.lanes + into_iter_len l.client-iterator ≤ vec_capacity l.lanes;
  outlet_room : vec_len l.outlets + into_iter_len l.client-iterator ≤ vec_capacity l.outlets;
}
