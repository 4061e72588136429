use Rattle.std.proofs.Common.{◌≡◌, ◌≤◌, [], map, replicate, vec_len, vec_capacity}
use Rattle.fleet_world.proofs.leftovers.none_collected.Given as goal

abbrev pub invariant-loop-i : goal.invariant-loop-i
invariant-loop-i g l = record {
  items : map (λ v. v.items) l.all.items ≡ replicate l._i [];
  len : vec_len l.all ≡ l._i;
  room : l.count ≤ vec_capacity l.all;
}
