use Rattle.std.proofs.Common.{subst}
use Rattle.fleet_bridge.specs.Roominess.{AreRoomyFor}
use Rattle.fleet_bridge.proofs.roomy.roominess.Goals as goal

pub returns-in-Some-clause-exact : goal.returns-in-Some-clause-exact
returns-in-Some-clause-exact g c =
    let known : AreRoomyFor c.new.result c.in-Some.most.items = rw c.in-Some.is at c.in_ok-most.ensures in
    (subst (λ m. AreRoomyFor m c.in-Some.most.items) c.new.ensures known).each
