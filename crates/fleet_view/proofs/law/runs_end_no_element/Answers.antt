-- No `<` in the text of runs.
use Rattle.fleet_view.proofs.ClosedRuns.{plan-closed, log-closed, trace-closed}
use Rattle.fleet_view.proofs.law.runs_end_no_element.Goals as goal

pub returns-clause-plan : goal.returns-clause-plan
returns-clause-plan c = λ width places cs. plan-closed width places cs

pub returns-clause-log : goal.returns-clause-log
returns-clause-log c = λ text is. log-closed text is

pub returns-clause-trace : goal.returns-clause-trace
returns-clause-trace c = λ v t. trace-closed v t
