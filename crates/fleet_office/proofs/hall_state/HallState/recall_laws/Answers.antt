use Rattle.fleet_office.proofs.hall_state.HallState.recall_laws.Goals as goal

pub returns : goal.returns
returns g c =
    let e = c.chapter.ensures in
    rw (← c.self.view_is)
    record { lawful = c.self.invariant; planned = e.planned; advancing = e.advancing; bounded = e.bounded; served = e.served; keeps_bound = e.keeps_bound }
