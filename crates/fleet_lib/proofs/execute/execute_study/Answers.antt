-- A valid plan is executed.
use Rattle.std.proofs.Common.{ap}
use Rattle.fleet_convert.specs.PlanTrace.{is_valid}
use Rattle.fleet_lib.proofs.Executions.{study_held, study_broken}
use Rattle.fleet_lib.proofs.execute.execute_study.Goals as goal

pub returns-in-Ok : goal.returns-in-Ok
returns-in-Ok g c =
    study_held c.args.rules.clearance c.args.study.now (g.I.Read.remaining c.args.input.now) (g.W.Write.contents c.args.output.now) (g.W.Write.contents c.execute.new.output) (g.E.Write.contents c.args.error.now)
    (ap is_valid c.in-Valid.is) c.in-Ok.ensures.held

pub returns-in-Err : goal.returns-in-Err
returns-in-Err g c =
    study_broken c.args.rules.clearance c.args.study.now (g.I.Read.remaining c.args.input.now) (g.W.Write.contents c.args.output.now) (g.W.Write.contents c.execute.new.output) (g.E.Write.contents c.args.error.now) (g.E.Write.contents c.complain_of_hold.new.error)
    c.in-Err.fault c.complain_of_hold.result (ap is_valid c.in-Valid.is) c.in-Err.ensures.broken c.complain_of_hold.ensures
