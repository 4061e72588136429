-- Room for a further step.
use Rattle.fleet_execution.specs.State.{desk_of}
use Rattle.fleet_execution.proofs.Looking.{room_is, room_back}
use Rattle.fleet_execution.proofs.execution.Execution.has_room.Goals as goal

pub returns-clause-course : goal.returns-clause-course
returns-clause-course g c = rw (← c.self.view_is) (λ o x. (
  λ it_is. room_is (desk_of c.self.inside.state) o x c.self.invariant.sized.some (c.has_room.ensures.0 it_is),
  λ room. c.has_room.ensures.1 (room_back (desk_of c.self.inside.state) o x c.self.invariant.sized.some room),
))
