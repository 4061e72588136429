use Rattle.std.proofs.Common.{◌≡◌, length, arith}
use Rattle.fleet_office.proofs.hall_state.HallState.clients.Goals as goal

pub overflow_cast-result : goal.overflow_cast-result
overflow_cast-result g c = omega (arith, c.len.ensures, c.self.inside.ends.ok.0, c.self.invariant.few)

pub returns : goal.returns
returns g c =
    let s = c.self.inside in
    let count : c.len.result ≡ length s.ends.items = omega (arith, c.len.ensures, s.ends.ok.0) in
    rw (← c.self.view_is) record { count = count; few = omega (arith, count, c.self.invariant.few) }
