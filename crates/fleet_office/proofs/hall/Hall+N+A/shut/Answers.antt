use Rattle.fleet_office.proofs.hall.Hall+N+A.shut.Goals as goal

pub shut-requires : goal.shut-requires
shut-requires g c = c.requires

pub returns : goal.returns
returns g c = record {
  ok = c.shut.ensures.ok;
  no_robot = c.shut.ensures.no_robot;
  already = c.shut.ensures.already;
  chapter_full = c.shut.ensures.chapter_full;
  entries = c.shut.ensures.entries;
  err = c.shut.ensures.err;
}
