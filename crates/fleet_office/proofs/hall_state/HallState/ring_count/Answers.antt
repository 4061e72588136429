use Rattle.std.proofs.Common.{arith}
use Rattle.fleet_office.proofs.hall_state.HallState.ring_count.Goals as goal

pub overflow_cast-result : goal.overflow_cast-result
overflow_cast-result g c = omega (arith, c.len.ensures, c.self.inside.ends.ok.0, c.self.invariant.few)

pub returns : goal.returns
returns g c = omega (arith, c.len.ensures, c.self.inside.ends.ok.0, c.self.invariant.ring_count)
