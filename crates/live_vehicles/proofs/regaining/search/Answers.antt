-- Vehicles that are found.
use Rattle.live_vehicles.proofs.Steps.{found_at}
use Rattle.live_vehicles.proofs.regaining.search.Goals as goal

pub returns-then-are_at : goal.returns-then-are_at
returns-then-are_at c =
    let moved = found_at _ _ c.in-Some-found.vehicles c.in-Some-found.is c.in_ok-found.ensures.moved in
    ((moved, λ r inside. c.are_at.ensures c.if-are_at.true moved.course moved.follows r inside), found_at _ _ c.in-Some-found.vehicles c.in-Some-found.is c.in_ok-found.ensures.first)
