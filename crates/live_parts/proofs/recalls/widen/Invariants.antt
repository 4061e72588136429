-- Each client has what it had.
use Rattle.std.proofs.Common.{◌≡◌, ◌-◌, ℕ, length}
use Rattle.live_parts.specs.Recalls.{AreFew, recall_at}
use Rattle.live_parts.proofs.recalls.widen.Given as goal

abbrev pub invariant-loop-alloc : goal.invariant-loop-alloc
invariant-loop-alloc l = record {
  few : (most : ℕ) → AreFew most l.fn.clients.items → AreFew most l.clients.items;
  same : (c : ℕ) → recall_at l.clients.items c ≡ recall_at l.fn.clients.items c;
}

abbrev pub decreases-loop-alloc : goal.decreases-loop-alloc
decreases-loop-alloc l = l.count - length l.clients.items
