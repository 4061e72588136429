-- What is read of a table is what its lines say.
use Rattle.fleet_plans.proofs.Tables.{is-table}
use Rattle.fleet_plans.proofs.law.a_table_is_by_its_lines.Goals as goal

pub returns : goal.returns
returns c = λ w h lines t is. is-table w h lines t is
