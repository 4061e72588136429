-- The clients so far have begun, and the others are as they were.
use Rattle.std.proofs.Common.{◌≡◌, ◌<◌, ◌≤◌, ℕ, length}
use Rattle.std.specs.Prelude.{slice_index_or}
use Rattle.fleet_history.specs.History.{unknown_client}
use Rattle.live_parts.specs.Recalls.{AreFew, begun, recall_at}
use Rattle.live_parts.proofs.recalls.begin_in.Given as goal

abbrev pub invariant-loop-at : goal.invariant-loop-at
invariant-loop-at l = record {
  few : (most : ℕ) → AreFew most l.fn.clients.items → AreFew most l.clients.items;
  len : length l.clients.items ≡ length l.fn.clients.items;
  begun : (c : ℕ) → c < l.at → recall_at l.clients.items c ≡ begun (slice_index_or l.states c unknown_client) (recall_at l.fn.clients.items c);
  others : (c : ℕ) → l.at ≤ c → recall_at l.clients.items c ≡ recall_at l.fn.clients.items c;
}
