-- The chapter is not given yet.
use Rattle.std.proofs.Common.{◌≡◌}
use Rattle.rtrb.specs.Ring.{sent}
use Rattle.fleet_live.proofs.listeners.give.Given as goal

abbrev pub invariant-loop : goal.invariant-loop
invariant-loop g l = record {
  sent : sent l.ring ≡ sent l.fn.ring;
  same : l.chapter ≡ l.fn.chapter;
}
