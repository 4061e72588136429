use Rattle.fleet_office.proofs.ChapterSteps.{kept-next, hall-next, hall-stays}
use Rattle.fleet_office.proofs.hall_state.HallState.next_chapter.Goals as goal

pub invariant_of-self : goal.invariant_of-self
invariant_of-self g c =
    let s = c.self.inside in
    let n = c.next_chapter-handed in
    kept-next g.N.OfficeName.rings g.N.OfficeName.start s.core n.new.self s.ends.items s.book.total n.result n.ensures.next n.ensures.err c.chapter.ensures.legal c.self.invariant

pub returns : goal.returns
returns g c =
    let s = c.self.inside in
    let n = c.next_chapter-handed in
    let e = n.ensures in
    rw (← c.self.view_is)
    record {
      book_spent = e.book_spent;
      history = e.history;
      number = e.number;
      legal = e.legal;
      planned = e.planned;
      advancing = e.advancing;
      bounded = e.bounded;
      served = e.served;
      next = hall-next s.core n.new.self s.ends.items s.book.total n.result e.next;
      err = hall-stays s.core n.new.self s.ends.items s.book.total n.result e.err;
    }
