use Rattle.std.proofs.Common.{◌≡◌, ◌≤◌, map, vec_len, vec_capacity}
use Rattle.std.specs.List.{range_with_len}
use Rattle.fleet_state.specs.State.{Of, client_count}
use Rattle.fleet_core.specs.Resuming.{empty_box}
use Rattle.fleet_core.proofs.mailbox.owed_boxes.Given as goal

abbrev pub invariant-loop-c : goal.invariant-loop-c
invariant-loop-c g l = record {
  boxes : Of l.state (λ h. l.boxes.items ≡ map (empty_box h l.room) (range_with_len 0 l.c));
  len : vec_len l.boxes ≡ l.c;
  room : client_count l.state ≤ vec_capacity l.boxes;
}
