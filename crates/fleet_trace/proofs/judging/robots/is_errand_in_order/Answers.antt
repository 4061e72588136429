-- The errand of a robot, test by test.
use Rattle.fleet_trace.specs.inside.Opened.{IsErrandInOrder}
use Rattle.fleet_trace.proofs.Robots.{decides, unknown, too_low, too_high, reached}
use Rattle.fleet_trace.proofs.judging.robots.is_errand_in_order.Goals as goal
use Rattle.fleet_trace.proofs.judging.robots.is_errand_in_order.Goals.{then-errand-lt1-via-then-errand-lt1, then-errand-lt1-via-else-errand-lt1+then-errand-clients}

pub returns-then-client-clients : goal.returns-then-client-clients
returns-then-client-clients g c = unknown c.args.grid.now c.args.clients.now c.args.cell c.args.errand.now c.if-client-clients.true

pub bounds-clients-client : goal.bounds-clients-client
bounds-clients-client g c = c.if-client-clients.false

pub returns-then-errand-lt1 : goal.returns-then-errand-lt1
returns-then-errand-lt1 g c = elim c.then-errand-lt1.branch [
  | then-errand-lt1-via-then-errand-lt1 w ↦ too_low c.args.grid.now c.args.clients.now c.args.cell c.args.errand.now w.if-errand-lt1.true
  | then-errand-lt1-via-else-errand-lt1+then-errand-clients w ↦ too_high c.args.grid.now c.args.clients.now c.args.cell c.args.errand.now w.if-errand-clients.true
]

pub same_part-requires-clause-a : goal.same_part-requires-clause-a
same_part-requires-clause-a g c = c.requires

pub same_part-requires-clause-b : goal.same_part-requires-clause-b
same_part-requires-clause-b g c = c.is_floor.ensures.0 c.if-is_floor.true

pub returns-then-is_floor : goal.returns-then-is_floor
returns-then-is_floor g c =
    reached c.args.grid.now c.args.clients.now c.args.cell c.args.errand.now c.same_part.result c.if-client-clients.false c.if-errand-lt1.false c.if-errand-clients.false
    (c.is_floor.ensures.0 c.if-is_floor.true) c.same_part.ensures

pub returns-else-is_floor : goal.returns-else-is_floor
returns-else-is_floor g c = decides (IsErrandInOrder c.args.grid.now c.args.clients.now c.args.cell c.args.errand.now) c.is_floor.result c.if-is_floor.false (λ fine. c.is_floor.ensures.1 fine.on_floor)
