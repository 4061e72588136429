use Rattle.std.proofs.Common.{◌≡◌, ◌≤◌, ℕ, List, false, map, vec_len, vec_capacity}
use Rattle.std.specs.List.{range_with_len}
use Rattle.live_fleet.specs.declared.notes.Note.{Note}
use Rattle.fleet_history.specs.History.{taken_count}
use Rattle.live_fleet.proofs.party.new_notes.Given as goal

abbrev pub invariant-loop-client : goal.invariant-loop-client
invariant-loop-client g l = record {
  items : l.notes.items ≡ map {B = Note} (λ c. record { closed = false; last = taken_count l.session.world.core.history c }) (range_with_len 0 l.client);
  len : vec_len l.notes ≡ l.client;
  room : l.fn.clients ≤ vec_capacity l.notes;
}
