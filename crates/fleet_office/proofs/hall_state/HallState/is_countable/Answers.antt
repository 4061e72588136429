use Rattle.fleet_office.proofs.Counted.{countable}
use Rattle.fleet_office.proofs.hall_state.HallState.is_countable.Goals as goal

pub returns : goal.returns
returns g c =
    let s = c.self.inside in
    rw (← c.self.view_is) (countable g.N.OfficeName.rings g.N.OfficeName.start s.core s.ends.items s.book.total c.self.invariant c.chapter.ensures.counts)
