use Rattle.execution_law.proofs.Visits.{ended_before}
use Rattle.execution_law.proofs.law.robots_keep_the_order.Goals as goal

pub returns : goal.returns
returns c = record {
  order = λ run lawful. lawful.order;
  last = λ run lawful p last cell. ended_before run p last cell lawful;
}
