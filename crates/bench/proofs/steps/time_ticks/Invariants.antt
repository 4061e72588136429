use Rattle.std.proofs.Common.{◌≡◌, length, vec_len}
use Rattle.bench.specs.Fleet.{IsUnderWay}
use Rattle.bench.proofs.steps.time_ticks.Given as goal

abbrev pub invariant-loop-tick : goal.invariant-loop-tick
invariant-loop-tick g l = record {
  way : IsUnderWay l.site.grid l.site.home (length l.fields) l.fleet.from.items l.fleet.to.items l.fleet.waits.items l.fleet.aims.items;
  robots : vec_len l.fleet.from ≡ vec_len l.fn.fleet.from;
  made : l.stepper ≡ l.fn.stepper;
}
