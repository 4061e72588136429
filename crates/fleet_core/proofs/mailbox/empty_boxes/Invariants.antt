use Rattle.std.proofs.Common.{◌≡◌, ◌≤◌, replicate, [], vec_len, vec_capacity}
use Rattle.fleet_core.proofs.mailbox.empty_boxes.Given as goal

abbrev pub invariant-loop-i : goal.invariant-loop-i
invariant-loop-i g l = record {
  boxes : l.boxes.items ≡ replicate l._i (record { notices = []; limit = l.limit });
  len : vec_len l.boxes ≡ l._i;
  room : l.count ≤ vec_capacity l.boxes;
}
