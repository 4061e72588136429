use Rattle.std.proofs.Common.{slice_index, arith}
use Rattle.std.proofs.lemmas.Bool.{eqb-true, eqb-false}
use Rattle.fleet_bridge.proofs.places.is_floor.Goals as goal

pub bounds-list-at : goal.bounds-list-at
bounds-list-at c = c.requires

pub returns-clause-floor : goal.returns-clause-floor
returns-clause-floor c = λ yes. let is = eqb-true (slice_index c.args.list.now c.args.at) 4294967295 yes in (c.requires, λ wall. omega (arith, is, wall))

pub returns-clause-wall : goal.returns-clause-wall
returns-clause-wall c = λ no. eqb-false (slice_index c.args.list.now c.args.at) 4294967295 no
