-- The first conversation, and those over pipes so far.
use Rattle.std.proofs.Common.{◌≡◌, ◌≤◌, ◌+◌, [], ◌∷◌, ◌++◌, map, vec_len, vec_capacity}
use Rattle.std.specs.List.{range_with_len}
use Rattle.fleet_live.specs.Begin.{on_pipe, operator}
use Rattle.fleet_live.proofs.conversations.speakers_of.Given as goal

abbrev pub invariant-loop-at : goal.invariant-loop-at
invariant-loop-at l = record {
  items : l.speakers.items ≡ (operator l.pipes l.clients l.paced l.watch ∷ []) ++ map (on_pipe l.clients) (range_with_len 0 l.at);
  len : vec_len l.speakers ≡ l.at + 1;
  room : l.pipes + 1 ≤ vec_capacity l.speakers;
}
