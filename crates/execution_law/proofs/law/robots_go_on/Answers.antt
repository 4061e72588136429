use Rattle.execution_law.proofs.Waits.{progress, in_step}
use Rattle.execution_law.proofs.law.robots_go_on.Goals as goal

pub returns : goal.returns
returns c = record { progress = progress; in_step = in_step }
