use Rattle.fleet_office.proofs.hall.Hall+N+A.tick_with.Goals as goal

pub tick_with-requires : goal.tick_with-requires
tick_with-requires g c = c.requires

pub returns : goal.returns
returns g c = record {
  ok = c.tick_with.ensures.ok;
  clock_spent = c.tick_with.ensures.clock_spent;
  chapter_full = c.tick_with.ensures.chapter_full;
  early = c.tick_with.ensures.early;
  entries = c.tick_with.ensures.entries;
  err = c.tick_with.ensures.err;
}
