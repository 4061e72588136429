-- How far the execution is behind.
use Rattle.fleet_execution.specs.State.{desk_of}
use Rattle.fleet_execution.proofs.Looking.{behind_is}
use Rattle.fleet_execution.proofs.execution.Execution.behind.Goals as goal

pub returns : goal.returns
returns g c = rw (← c.self.view_is) (λ o x. behind_is (desk_of c.self.inside.state) o x c.behind.result c.behind.ensures)
