-- With another robot.
use Rattle.std.proofs.Common.{[], ◌∷◌, refl}
use Rattle.fleet_check.specs.declared.fault.StepFault.TheVariants.{Swap}
use Rattle.fleet_conflicts.specs.Conflicts.{other}
use Rattle.fleet_conflicts.proofs.robot.add_swapped.Goals as goal

pub returns-in_ok-push-in-Some : goal.returns-in_ok-push-in-Some
returns-in_ok-push-in-Some c = (Swap c.in-Some.other c.args.robot ∷ [], other c.in-Some.other c.in-Some.ensures refl, c.in_ok-push-in-Some.ensures.items)
