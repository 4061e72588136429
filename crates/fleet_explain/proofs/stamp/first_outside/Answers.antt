-- The stamps of a tick: those of its arrivals, then those of its farewells.
use Rattle.fleet_explain.proofs.Stamps.{tick_some, tick_none}
use Rattle.fleet_explain.proofs.stamp.first_outside.Goals as goal

pub returns-in-Some : goal.returns-in-Some
returns-in-Some c =
    tick_some c.args.robots.now c.args.entry.now c.in-Tick.to c.in-Tick.arrived c.as_slice.result.now c.in-Tick.farewells c.in-Tick.farewells c.in-Tick.is c.as_slice.ensures
    c.first_of_arrivals.result c.in-Some.stamp c.first_of_arrivals.ensures c.in-Some.is

pub returns-in-None : goal.returns-in-None
returns-in-None c =
    tick_none c.args.robots.now c.args.entry.now c.in-Tick.to c.in-Tick.arrived c.as_slice.result.now c.in-Tick.farewells c.as_slice-in-None.result.now c.in-Tick.is c.as_slice.ensures
    c.first_of_arrivals.result c.first_of_farewells.result c.first_of_arrivals.ensures c.in-None.is c.as_slice-in-None.ensures c.first_of_farewells.ensures
