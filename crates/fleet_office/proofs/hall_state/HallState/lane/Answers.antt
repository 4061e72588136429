use Rattle.std.proofs.Common.{◌≤◌, ap, subst, sym}
use Rattle.fleet_book.specs.declared.limits.Limits.{Limits}
use Rattle.fleet_office.proofs.hall_state.HallState.lane.Goals as goal

pub returns : goal.returns
returns g c =
    let is = ap (λ (l : Limits). l.lane) c.limits.ensures in
    rw (← c.self.view_is) record { value = is; small = subst (λ n. n ≤ 65536) (sym is) c.self.invariant.valid.lane.1 }
