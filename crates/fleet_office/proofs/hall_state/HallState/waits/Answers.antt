use Rattle.fleet_office.specs.Shown.{ShowsWaits}
use Rattle.fleet_office.proofs.hall_state.HallState.waits.Goals as goal

pub returns : goal.returns
returns g c =
    let shown : ShowsWaits c.self.inside.core record { longest = c.longest_wait.result; limit = c.wait_limit.result } = record {
      legal = c.self.invariant.legal;
      longest = c.longest_wait.ensures;
      told = c.wait_limit.ensures.told;
      exact = c.wait_limit.ensures.exact;
      above = c.wait_limit.ensures.above;
    } in
    rw (← c.self.view_is) shown
