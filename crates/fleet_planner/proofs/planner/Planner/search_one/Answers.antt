use Rattle.std.proofs.Common.{◌≤◌, ◌∙◌, ℕ, List, Option, IfOk, length, vec_capacity, ap, sym, subst}
use Rattle.fleet_planner.specs.Aimed.{Planner}
use Rattle.fleet_planner.specs.Courses.{goals_of, AreOn}
use Rattle.fleet_planner.specs.Searched.{IsSearch}
use Rattle.fleet_planner.proofs.Merged.{still_goals}
use Rattle.fleet_planner.proofs.planner.Planner.search_one.Goals as goal

pub search_one-requires : goal.search_one-requires
search_one-requires g c = subst (λ (p : Planner). AreOn c.args.grid.now p.aims) (sym c.self.view_is) c.requires

pub invariant_of-self : goal.invariant_of-self
invariant_of-self g c = subst (λ (goals : List (Option ℕ)). length goals ≤ vec_capacity c.self.inside.turns) (sym (still_goals c.search_one.ensures.still)) c.self.invariant

pub returns : goal.returns
returns g c =
    let m = c.args.grid.now in
    let new = c.search_one.new.self in
    record {
      search = subst (λ (p : Planner). IfOk c.search_one.result (λ searched. IsSearch m c.args.state.now.cells p.aims new searched)) c.self.view_is
          (subst (λ (cells : List ℕ). IfOk c.search_one.result (λ searched. IsSearch m cells c.self.inside.aims new searched)) c.place.ensures.cells c.search_one.ensures.search);
      goals = still_goals c.search_one.ensures.still ∙ ap (λ (p : Planner). goals_of p.aims) c.self.view_is;
      on = c.search_one.ensures.on;
      size = ap (λ (p : Planner). p.size) c.self.view_is;
      bridge = ap (λ (p : Planner). p.bridgeless) c.self.view_is;
      kept = ap (λ (p : Planner). p.kept) c.self.view_is;
    }
