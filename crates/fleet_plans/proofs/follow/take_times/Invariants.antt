use Rattle.std.proofs.Common.{◌≡◌, length}
use Rattle.fleet_plans.specs.inside.Follow.{AreTaken}
use Rattle.fleet_plans.proofs.follow.take_times.Given as goal

abbrev pub invariant-loop-time : goal.invariant-loop-time
invariant-loop-time g l = record {
  taken : AreTaken l.fn.judge.floor l.paths l.time l.judge;
  each_one : length l.place ≡ length l.paths;
}
