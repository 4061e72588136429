-- The arrivals that are due, next to those that are shown.
use Rattle.std.proofs.Common.{◌≡◌, ◌∙◌, List, ap, map, rules, subst}
use Rattle.fleet_history.specs.Legal.{Due as Arriving, due_of}
use Rattle.fleet_explain.specs.Details.{IsArrivalDetail}
use Rattle.fleet_explain.proofs.arrival.arrival_detail.Goals as goal

pub returns : goal.returns
returns c =
    let same : c.deref.result.now ≡ c.in_ok-landings.landings.arrived.items = search rules in
    subst (λ (p : List Arriving). IsArrivalDetail p (map due_of c.args.shown.now) c.tick_arrivals.result)
    (ap (map due_of) same ∙ c.in_ok-landings.ensures.arrived) c.tick_arrivals.ensures
