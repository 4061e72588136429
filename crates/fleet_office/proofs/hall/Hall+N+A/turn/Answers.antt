use Rattle.fleet_office.proofs.hall.Hall+N+A.turn.Goals as goal

pub returns : goal.returns
returns g c = record {
  ok = c.turn.ensures.ok;
  given = c.turn.ensures.given;
  ticker = c.turn.ensures.ticker;
  err = c.turn.ensures.err;
  kept = c.turn.ensures.kept;
}
