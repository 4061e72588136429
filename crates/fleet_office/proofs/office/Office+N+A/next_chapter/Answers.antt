use Rattle.fleet_office.proofs.ChapterSteps.{handed}
use Rattle.fleet_office.proofs.office.Office+N+A.next_chapter.Goals as goal

pub returns-clause-handed : goal.returns-clause-handed
returns-clause-handed g c =
    let h = c.deref_mut-hall.result.now.state in
    let e = c.next_chapter.ensures in
    handed g.N.OfficeName.rings g.N.OfficeName.start h c.next_chapter.result c.recall_laws.ensures.lawful e.history e.number e.planned e.advancing e.bounded e.served

pub returns-clause-spent : goal.returns-clause-spent
returns-clause-spent g c why =
    let h = c.deref_mut-hall.result.now.state in (h, c.recall_laws.ensures.lawful, c.next_chapter.ensures.book_spent.0 why)
