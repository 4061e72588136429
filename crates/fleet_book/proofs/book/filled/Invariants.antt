use Rattle.std.proofs.Common.{◌≡◌, ◌≤◌, replicate, vec_len}
use Rattle.std.specs.Vec.{vec_capacity}
use Rattle.fleet_book.proofs.book.filled.Given as goal

abbrev pub invariant-loop : goal.invariant-loop
invariant-loop g l = record {
  size : vec_len l.items ≡ l.counter;
  room : l.count ≤ vec_capacity l.items;
  items : l.items.items ≡ replicate l.counter l.item;
}
