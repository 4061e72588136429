use Rattle.std.proofs.Common.{◌≡◌, ◌≤◌, [], ℕ, List, Vec, Global, map, replicate, vec_len, vec_capacity}
use Rattle.live_fleet.proofs.outboxes.empty_texts.Given as goal

abbrev pub invariant-loop-i : goal.invariant-loop-i
invariant-loop-i l = record {
  items : map (λ (t : Vec ℕ Global). t.items) l.texts.items ≡ replicate l._i [];
  len : vec_len l.texts ≡ l._i;
  room : l.count ≤ vec_capacity l.texts;
}
