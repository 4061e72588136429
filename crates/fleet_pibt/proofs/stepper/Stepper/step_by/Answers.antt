-- The step without a door.
use Rattle.std.proofs.lemmas.Result.{on_ok_weaker}
use Rattle.fleet_pibt.proofs.Doors.{stepped-none}
use Rattle.fleet_pibt.proofs.stepper.Stepper.step_by.Goals as goal

pub returns-clause-stepped : goal.returns-clause-stepped
returns-clause-stepped g c = on_ok_weaker c.step_with_door.result (stepped-none c.args.grid.now c.args.waits.now _ _ c.args.from.now c.step_with_door.new.to) c.step_with_door.ensures.stepped
