use Rattle.fleet_c.specs.Batches.{lists}
use Rattle.fleet_c.proofs.Shows.{shown}
use Rattle.fleet_c.proofs.shown.tick_shown.Goals as goal

pub returns-then-code-eq-DONE-clause-shown : goal.returns-then-code-eq-DONE-clause-shown
returns-then-code-eq-DONE-clause-shown c done =
    shown c.args.core.now c.tick-code.new.core c.tick-code.result c.tick-code.new.report (lists c.args.cells.now c.args.arrivals.now c.args.farewells.now) (lists c.show.new.cells c.show.new.arrivals c.show.new.farewells)
    c.requires c.tick-code.ensures.says done c.show.ensures.cells c.show.ensures.arrivals c.show.ensures.farewells
