use Rattle.execution_law.proofs.Visits.{bound_apart, left_alone, no_exchange}
use Rattle.execution_law.proofs.Waits.{progress}
use Rattle.fleet_execution.proofs.law.executions_keep_the_rule.Goals as goal

pub returns : goal.returns
returns c = record {
  lawful = λ e o x. x.course.lawful;
  order = λ e o x. x.course.lawful.order;
  exclusion = λ e o x r q. bound_apart o.run r q x.course.lawful;
  left = λ e o x arrived r q. left_alone o.run r q x.course.lawful arrived;
  no_swap = λ e o x r q. no_exchange o.run r q x.course.lawful;
  progress = λ e o x. progress o.run x.course.lawful;
}
