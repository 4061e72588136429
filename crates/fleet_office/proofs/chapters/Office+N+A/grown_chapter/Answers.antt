use Rattle.fleet_office.proofs.ChapterSteps.{grown-enough, grown-handed}
use Rattle.fleet_office.proofs.chapters.Office+N+A.grown_chapter.Goals as goal

pub returns : goal.returns
returns g c =
    let h = c.deref_mut-hall.result.now.state in
    let laws = c.recall_laws.ensures in
    let p = c.grown_chapter in
    record {
      few = λ why. (h, laws.lawful, p.ensures.few.0 why);
      enough = grown-enough h p.new.self.state c.args.least p.result p.ensures.few p.ensures.ok;
      handed = grown-handed g.N.OfficeName.rings g.N.OfficeName.start h p.new.self.state p.result laws.lawful laws.planned laws.advancing laws.bounded laws.served p.ensures.ok;
      spent = λ why. let s = p.ensures.book_spent.0 why in (h, laws.lawful, s.0, s.1);
    }
