use Rattle.std.proofs.Common.{◌≡◌, length, vec_len}
use Rattle.bench.specs.Fleet.{IsUnderWay}
use Rattle.bench.proofs.steps.time_fleet.Given as goal

abbrev pub invariant-loop : goal.invariant-loop
invariant-loop g l = record {
  way : IsUnderWay l.site.grid l.site.home (length l.fields) l.fleet.from.items l.fleet.to.items l.fleet.waits.items l.fleet.aims.items;
  robots : vec_len l.fleet.from ≡ l.robots;
  made : l.stepper ≡ record { cells = length l.site.grid.letters; robots = l.robots };
}
