use Rattle.std.proofs.Common.{ap}
use Rattle.fleet_planner.specs.Aimed.{Planner}
use Rattle.fleet_planner.proofs.Refused.{all_err}
use Rattle.fleet_planner.proofs.planner.Planner.search_ahead.Goals as goal

pub invariant_of-self : goal.invariant_of-self
invariant_of-self g c = c.self.invariant

pub returns-in_err-_have_all_place : goal.returns-in_err-_have_all_place
returns-in_err-_have_all_place g c = record {
  aims = ap (λ (p : Planner). p.aims) c.self.view_is;
  size = ap (λ (p : Planner). p.size) c.self.view_is;
  bridge = ap (λ (p : Planner). p.bridgeless) c.self.view_is;
  keeps = c.search_goals.ensures.keeps;
  refused = all_err c.from_residual.result (rw c.in_err-_have_all_place.ensures.refused c.self.view_is);
}

pub returns : goal.returns
returns g c = record {
  aims = ap (λ (p : Planner). p.aims) c.self.view_is;
  size = ap (λ (p : Planner). p.size) c.self.view_is;
  bridge = ap (λ (p : Planner). p.bridgeless) c.self.view_is;
  keeps = c.search_goals.ensures.keeps;
  refused = tt;
}

pub invariant_of-self-2 : goal.invariant_of-self-2
invariant_of-self-2 g c = c.self.invariant
