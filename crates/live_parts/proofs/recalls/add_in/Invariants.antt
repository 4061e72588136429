-- The clients so far have the chapter's notices, and the others what they had.
use Rattle.std.proofs.Common.{◌≡◌, ◌<◌, ◌≤◌, ℕ, length}
use Rattle.fleet_history.specs.History.{history_of}
use Rattle.fleet_history.specs.Notices.{notices}
use Rattle.live_parts.specs.Recalls.{AreFew, IsCounted, recall_at, with_before}
use Rattle.live_parts.proofs.recalls.add_in.Given as goal

abbrev pub invariant-loop-client : goal.invariant-loop-client
invariant-loop-client l = record {
  few : AreFew l.most l.clients.items;
  len : length l.clients.items ≡ length l.fn.clients.items;
  kept : (c : ℕ) → c < l.client → IsCounted (history_of l.chapter) c → recall_at l.clients.items c ≡ with_before l.most (notices (history_of l.chapter) c) (recall_at l.fn.clients.items c);
  others : (c : ℕ) → l.client ≤ c → recall_at l.clients.items c ≡ recall_at l.fn.clients.items c;
}
