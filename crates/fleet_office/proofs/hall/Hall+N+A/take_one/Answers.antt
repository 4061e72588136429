use Rattle.fleet_office.proofs.hall.Hall+N+A.take_one.Goals as goal

pub take_one-requires : goal.take_one-requires
take_one-requires g c = c.requires

pub returns : goal.returns
returns g c = record {
  ok = c.take_one.ensures.ok;
  mailbox_full = c.take_one.ensures.mailbox_full;
  chapter_full = c.take_one.ensures.chapter_full;
  err = c.take_one.ensures.err;
}
