use Rattle.std.proofs.Common.{◌≤◌, ◌∙◌, ℕ, List, Option, IfOk, length, vec_capacity, ap, sym, subst}
use Rattle.fleet_planner.specs.Courses.{goals_of, AreOn}
use Rattle.fleet_planner.specs.Searched.{IsSearch}
use Rattle.fleet_planner.proofs.Merged.{still_goals}
use Rattle.mover.specs.inside.Turning.{TurnFleet}
use Rattle.mover.proofs.turn_fleet.TurnFleet.search_one.Goals as goal

pub search_one-requires : goal.search_one-requires
search_one-requires g c = subst (λ (f : TurnFleet). AreOn c.args.grid.now f.aims) (sym c.self.view_is) c.requires

pub invariant_of-self : goal.invariant_of-self
invariant_of-self g c = subst (λ (goals : List (Option ℕ)). length goals ≤ vec_capacity c.self.inside.changes) (sym (still_goals c.search_one.ensures.still)) c.self.invariant

pub returns : goal.returns
returns g c =
    let m = c.args.grid.now in
    let new = c.search_one.new.self.courses in
    record {
      search = subst (λ (f : TurnFleet). IfOk c.search_one.result (λ searched. IsSearch m c.args.state.now.cells f.aims new searched)) c.self.view_is
          (subst (λ (cells : List ℕ). IfOk c.search_one.result (λ searched. IsSearch m cells c.self.inside.planner.courses new searched)) c.place.ensures.cells c.search_one.ensures.search);
      turns = c.search_one.ensures.turns ∙ ap (λ (f : TurnFleet). f.turns) c.self.view_is;
      goals = still_goals c.search_one.ensures.still ∙ ap (λ (f : TurnFleet). goals_of f.aims) c.self.view_is;
      on = c.search_one.ensures.on;
      size = c.search_one.ensures.stepper ∙ ap (λ (f : TurnFleet). f.size) c.self.view_is;
      kept = ap (λ (f : TurnFleet). f.kept) c.self.view_is;
    }
