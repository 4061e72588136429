use Rattle.std.proofs.Common.{◌≡◌, []}
use Rattle.fleet_execution.specs.Course.{Course}
use Rattle.fleet_execution.specs.Executes.{Executes}
use Rattle.fleet_execution.specs.Kept.{desk}
use Rattle.fleet_execute.specs.Goes.{HasGone}
use Rattle.fleet_execute.proofs.going.plan_ahead.Given as goal

abbrev pub invariant-loop-time : goal.invariant-loop-time
invariant-loop-time l = (o : Course) → Executes (desk l.fn.run) o → (gone : HasGone l.plan o [] (desk l.run)) × (gone.course.run.plan.steps ≡ l.time)
