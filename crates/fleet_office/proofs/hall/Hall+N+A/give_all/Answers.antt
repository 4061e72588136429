use Rattle.fleet_office.proofs.hall.Hall+N+A.give_all.Goals as goal

pub returns : goal.returns
returns g c = record { gives = c.give_all.ensures.all; counted = c.give_all.ensures.counted }
