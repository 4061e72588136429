use Rattle.fleet_office.proofs.tick_record.Hall+N+A.turn_into.Goals as goal

pub returns : goal.returns
returns g c = record {
  ok = c.turn_into.ensures.ok;
  given = c.turn_into.ensures.given;
  ticker = c.turn_into.ensures.ticker;
  err = c.turn_into.ensures.err;
  kept = c.turn_into.ensures.kept;
}
