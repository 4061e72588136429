-- What is read of YAML is what its lines say, and each text of which that holds is read.
use Rattle.fleet_plans.proofs.Schedules.{is-schedule}
use Rattle.fleet_plans.proofs.Scheduled.{schedule-read}
use Rattle.fleet_plans.proofs.law.a_schedule_is_by_its_lines.Goals as goal

pub returns-clause-only : goal.returns-clause-only
returns-clause-only c = λ w h lines t is. is-schedule w h 1 lines t is

pub returns-clause-each : goal.returns-clause-each
returns-clause-each c = λ w h lines paths few is. schedule-read w h lines paths few is
