use Rattle.execution_law.proofs.Visits.{bound_apart, left_alone, no_exchange}
use Rattle.execution_law.proofs.law.robots_stay_apart.Goals as goal

pub returns : goal.returns
returns c = record {
  exclusion = λ run lawful r q. bound_apart run r q lawful;
  left = λ run lawful arrived r q. left_alone run r q lawful arrived;
  no_swap = λ run lawful r q. no_exchange run r q lawful;
}
