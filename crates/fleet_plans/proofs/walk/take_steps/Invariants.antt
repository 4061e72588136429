use Rattle.std.proofs.Common.{◌<◌, ◌^◌, length}
use Rattle.fleet_plans.specs.Shown.{texts}
use Rattle.fleet_plans.specs.inside.Walk.{IsGone}
use Rattle.fleet_plans.proofs.walk.take_steps.Given as goal

abbrev pub invariant-loop-time : goal.invariant-loop-time
invariant-loop-time g l = record {
  gone : IsGone l.fn.judge.floor l.sides.width l.sides.height l.starts (texts l.tracks) l.time l.place l.judge;
  robots : length l.place < 2 ^ 32;
}
