use Rattle.fleet_office.proofs.settle.Hall+N+A.settle.Goals as goal

pub returns : goal.returns
returns g c = record { ok = c.settle.ensures.ok; given = c.settle.ensures.given; err = c.settle.ensures.err }
