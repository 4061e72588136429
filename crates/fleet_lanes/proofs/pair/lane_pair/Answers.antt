-- The two ends of new rings.
use Rattle.std.proofs.Common.{arith}
use Rattle.std.proofs.lemmas.Result.{IfOk-from_err}
use Rattle.fleet_lanes.proofs.pair.lane_pair.Goals as goal

pub returns-in_err-orders-clause-client : goal.returns-in_err-orders-clause-client
returns-in_err-orders-clause-client g c = IfOk-from_err c.from_residual.result _ c.from_residual.ensures.0

pub returns-in_err-orders-clause-hall : goal.returns-in_err-orders-clause-hall
returns-in_err-orders-clause-hall g c = IfOk-from_err c.from_residual.result _ c.from_residual.ensures.0

pub returns-in_err-hall_notices-clause-client : goal.returns-in_err-hall_notices-clause-client
returns-in_err-hall_notices-clause-client g c =
    IfOk-from_err c.from_residual-in_err-hall_notices.result _ c.from_residual-in_err-hall_notices.ensures.0

pub returns-in_err-hall_notices-clause-hall : goal.returns-in_err-hall_notices-clause-hall
returns-in_err-hall_notices-clause-hall g c =
    IfOk-from_err c.from_residual-in_err-hall_notices.result _ c.from_residual-in_err-hall_notices.ensures.0

pub new-requires-3-clause-empty : goal.new-requires-3-clause-empty
new-requires-3-clause-empty g c = (c.in_ok-orders.ensures.producer.0, c.in_ok-hall_notices.ensures.consumer.0)

pub new-requires-3-clause-fits : goal.new-requires-3-clause-fits
new-requires-3-clause-fits g c = (omega (arith, c.requires.orders.0), omega (arith, c.requires.orders.1))

pub returns-clause-client : goal.returns-clause-client
returns-clause-client g c =
    rw (c.new-3.ensures, c.in_ok-orders.ensures.producer.1, c.in_ok-hall_notices.ensures.consumer.1)
