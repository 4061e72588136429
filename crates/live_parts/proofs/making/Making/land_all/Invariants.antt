-- What the arrivals so far made, and the others.
use Rattle.std.proofs.Common.{◌≡◌, drop}
use Rattle.std.specs.Prelude.{fold}
use Rattle.live_parts.specs.inside.Making.{landed_of}
use Rattle.live_parts.proofs.making.Making.land_all.Given as goal

abbrev pub invariant-loop-arrival : goal.invariant-loop-arrival
invariant-loop-arrival l = fold (landed_of l.client l.to) l.self (drop l.arrival-index l.arrived) ≡ fold (landed_of l.client l.to) l.fn.self l.arrived
