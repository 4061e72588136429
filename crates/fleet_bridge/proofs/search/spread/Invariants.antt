use Rattle.std.specs.Vec.{vec_capacity}
use Rattle.std.proofs.Common.{◌≡◌, ◌≤◌, ◌-◌, length}
use Rattle.fleet_bridge.specs.inside.Search.{NearWithout, IsMarked, IsFront}
use Rattle.fleet_bridge.proofs.Fronts.{AreDone}
use Rattle.fleet_bridge.proofs.search.spread.Given as goal

abbrev pub invariant-loop-head : goal.invariant-loop-head
invariant-loop-head g l = record {
  size : length l.seen.items ≡ length l.grid.letters;
  start : IsMarked l.seen.items l.from;
  front : IsFront (NearWithout l.grid l.from l.to) l.from (length l.grid.letters) l.seen.items l.queue.items;
  room : length l.grid.letters ≤ vec_capacity l.queue;
  done : AreDone (NearWithout l.grid l.from l.to) l.seen.items l.queue.items l.head;
}

abbrev pub decreases-loop-head : goal.decreases-loop-head
decreases-loop-head g l = length l.grid.letters - l.head
