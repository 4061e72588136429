-- A move begins, and vehicles follow.
use Rattle.std.proofs.Common.{arith, refl}
use Rattle.live_vehicles.proofs.Steps.{has_returned}
use Rattle.live_vehicles.proofs.vehicles.Vehicles.begin.Goals as goal

pub returns-clause-some : goal.returns-clause-some
returns-clause-some c o x =
    let m = c.in_ok-begun.begun in
    let gives = c.in_ok-begun.ensures.some o x.tracks.executes in
    has_returned c.args.self.now _ o m x gives (c.note_begun.ensures (omega (arith, x.tracks.count, gives.0.inside))) refl
