use Rattle.fleet_office.proofs.ChapterSteps.{hall-stays}
use Rattle.fleet_office.proofs.ShutSteps.{kept-shut, told-shut}
use Rattle.fleet_office.proofs.hall_state.HallState.shut.Goals as goal

pub invariant_of-self : goal.invariant_of-self
invariant_of-self g c =
    let s = c.self.inside in
    kept-shut g.N.OfficeName.rings g.N.OfficeName.start s.core c.shut_by.new.self s.ends.items s.book.total c.args.robot c.shut_by.result c.shut_by.ensures.ok c.shut_by.ensures.err c.self.invariant

pub returns : goal.returns
returns g c =
    let s = c.self.inside in
    let e = c.shut_by.ensures in
    rw (← c.self.view_is)
    record {
      ok = told-shut s.core c.shut_by.new.self s.ends.items s.book.total c.args.robot c.shut_by.result e.ok;
      no_robot = e.no_robot;
      already = e.already;
      chapter_full = e.chapter_full;
      entries = e.entries;
      err = hall-stays s.core c.shut_by.new.self s.ends.items s.book.total c.shut_by.result e.err;
    }
