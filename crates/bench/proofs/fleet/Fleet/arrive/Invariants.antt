use Rattle.std.proofs.Common.{◌≡◌, length}
use Rattle.bench.specs.Fleet.{IsUnderWay}
use Rattle.bench.proofs.fleet.Fleet.arrive.Given as goal

abbrev pub invariant-loop-robot : goal.invariant-loop-robot
invariant-loop-robot l = record {
  way : IsUnderWay l.site.grid l.site.home (length l.fields) l.self.from.items l.self.to.items l.self.waits.items l.self.aims.items;
  from : l.self.from ≡ l.fn.self.from;
}
