use Rattle.execution_law.proofs.Kept.{opened_lawful, planned_lawful, begun_lawful, reported_lawful}
use Rattle.execution_law.proofs.law.runs_stay_lawful.Goals as goal

pub returns : goal.returns
returns c = record {
  opened = opened_lawful;
  planned = λ run steps cell lawful extends free. planned_lawful run steps cell lawful extends free;
  begun = λ run r t b lawful begins. begun_lawful run r t b lawful begins;
  reported = reported_lawful;
}
