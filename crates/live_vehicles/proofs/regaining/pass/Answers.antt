-- A robot passes, and vehicles follow.
use Rattle.std.proofs.Common.{Ok, ap}
use Rattle.live_vehicles.proofs.Steps.{moved_reported}
use Rattle.live_vehicles.proofs.regaining.pass.Goals as goal

pub returns-clause-moved : goal.returns-clause-moved
returns-clause-moved c o moved =
    moved_reported c.in_ok-reached.field-0 o c.args.vehicles.now c.reached.new.self c.args.begun.robot c.args.out.now.due.items c.reached.new.due.items (λ is. c.in_ok-reached.ensures.reached (ap Ok is)) (λ is. (c.in_ok-reached.ensures.refused (ap Ok is)).0) moved
