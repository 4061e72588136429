-- The orders and the notices of both rings.
use Rattle.fleet_lanes.proofs.hall_end.HallEnd.beside.Goals as goal

pub returns-clause-orders : goal.returns-clause-orders
returns-clause-orders g c = cc

pub returns-clause-notices : goal.returns-clause-notices
returns-clause-notices g c = cc
