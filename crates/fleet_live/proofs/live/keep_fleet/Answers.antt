-- The fleet was opened, or it was refused for the first reason that stands.
use Rattle.fleet_live.proofs.Refusing.{opened-by, refused-by}
use Rattle.fleet_live.proofs.live.keep_fleet.Goals as goal

pub returns-in-Err : goal.returns-in-Err
returns-in-Err g c = record { refused = λ why named. refused-by c.in-Err.fault why c.unopened.result _ (c.unopened.ensures.named why named) (c.in-Err.ensures.refused why named) }

pub returns : goal.returns
returns g c = record { refused = λ why named. opened-by c.in-Ok.session why c.serve_planned.result _ c.serve_planned.ensures.opened (c.in-Ok.ensures.refused why named) }
