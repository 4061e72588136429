use Rattle.std.proofs.Common.{◌≡◌, ◌++◌, drop, map}
use Rattle.fleet_stats.specs.Noted.{landed_by}
use Rattle.fleet_stats.proofs.notes.push_landed.Given as goal

abbrev pub invariant-loop-arrival : goal.invariant-loop-arrival
invariant-loop-arrival l =
    l.landed.items ++ map (landed_by l.state.tick l.state.waits l.state.cells l.to l.legs) (drop l.arrival-index l.arrived) ≡ l.fn.landed.items ++ map (landed_by l.state.tick l.state.waits l.state.cells l.to l.legs) l.arrived
