-- A script on a map that is read.
use Rattle.std.proofs.lemmas.Result.{IfOk-weaker}
use Rattle.fleet_map.specs.Grammar.{view}
use Rattle.fleet_script.specs.Runs.{runs_plan}
use Rattle.fleet_explain.proofs.Answered.{script_on, script_none}
use Rattle.fleet_explain.proofs.explanation.explain_script.Goals as goal

pub returns-in-Ok-read_runs : goal.returns-in-Ok-read_runs
returns-in-Ok-read_runs c =
    IfOk-weaker c.start_explanation.result _ _ (λ e is. script_on c.args.map.now c.args.script.now e (view c.in-Ok.floor) (runs_plan c.in-Ok-read_runs.script) c.in-Ok.ensures.exact c.in-Ok-read_runs.ensures is) c.start_explanation.ensures

pub returns : goal.returns
returns c = script_none c.args.map.now c.args.script.now (view c.in-Ok.floor) c.in-Err-Line.line c.in_ok-fault-in-Err-Line.fault c.in-Err-Line.field-0 c.in-Ok.ensures.exact c.in-Err-Line.field-0-is c.in-Err-Line.ensures c.in_ok-fault-in-Err-Line.ensures
