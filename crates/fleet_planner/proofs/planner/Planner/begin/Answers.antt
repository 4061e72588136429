use Rattle.std.proofs.Common.{◌∙◌, ℕ, List, length, Option, Some, refl, ap, arith, sym, subst}
use Rattle.fleet_planner.specs.Courses.{goals_of}
use Rattle.fleet_history.proofs.Legal.{accepted-robot}
use Rattle.fleet_state.proofs.Parts.{cell-count, queue-count}
use Rattle.fleet_planner.specs.Aimed.{IsAimed, Planner, begun_goals}
use Rattle.fleet_planner.proofs.GoalsKept.{aims-count, begun-known}
use Rattle.fleet_planner.proofs.Refused.{on_ok_map, on_err_map}
use Rattle.fleet_planner.proofs.planner.Planner.begin.Goals as goal

pub first_goal-requires : goal.first_goal-requires
first_goal-requires g c robot cell n goes accepted =
    let may = c.requires.may in
    omega (arith, queue-count may.is, accepted-robot c.args.grid.now may.history c.requires.client n robot cell (rw (goes, accepted) at c.requires.verdict))

pub aim-requires-clause-known : goal.aim-requires-clause-known
aim-requires-clause-known g c =
    let may = c.requires.may in
    let a = subst (IsAimed c.args.grid.now may.history) (sym c.self.view_is) may.aimed in
    let first = begun-known c.args.grid.now may.history c.args.state.now.queues c.requires.client c.args.order c.args.verdict c.in-Some.robot c.in-Some.cell c.requires.verdict (sym c.first_goal.ensures ∙ c.in-Some.is) in
    omega (arith, aims-count may.history c.self.inside.aims a.aimed, first.0)

pub aim-requires-clause-cells : goal.aim-requires-clause-cells
aim-requires-clause-cells g c =
    let may = c.requires.may in
    let a = subst (IsAimed c.args.grid.now may.history) (sym c.self.view_is) may.aimed in
    omega (arith, aims-count may.history c.self.inside.aims a.aimed, ap (λ (cells : List ℕ). length cells) c.place.ensures.cells, cell-count may.is)

pub aim-requires-clause-on : goal.aim-requires-clause-on
aim-requires-clause-on g c =
    let may = c.requires.may in
    let a = subst (IsAimed c.args.grid.now may.history) (sym c.self.view_is) may.aimed in a.on

pub aim-requires-clause-keeps : goal.aim-requires-clause-keeps
aim-requires-clause-keeps g c =
    let may = c.requires.may in
    let a = subst (IsAimed c.args.grid.now may.history) (sym c.self.view_is) may.aimed in a.kept

pub aim-requires-clause-floor : goal.aim-requires-clause-floor
aim-requires-clause-floor g c =
    let r = c.requires in
    (begun-known c.args.grid.now r.may.history c.args.state.now.queues r.client c.args.order c.args.verdict c.in-Some.robot c.in-Some.cell r.verdict (sym c.first_goal.ensures ∙ c.in-Some.is)).1

pub invariant_of-self : goal.invariant_of-self
invariant_of-self g c = omega (arith, c.aim.ensures.count, c.self.invariant)

pub returns-in-Some : goal.returns-in-Some
returns-in-Some g c =
    let first : Option (ℕ × ℕ) = Some (c.in-Some.robot, c.in-Some.cell) in
    record {
      goals = on_ok_map c.aim.result
          (λ e. e ∙ ap (λ (p : Planner). begun_goals first (goals_of p.aims)) c.self.view_is ∙ ap (λ (o : Option (ℕ × ℕ)). begun_goals o (goals_of c.args.self.now.aims)) (sym c.in-Some.is ∙ c.first_goal.ensures))
          c.aim.ensures.goals;
      on = c.aim.ensures.on;
      size = ap (λ (p : Planner). p.size) c.self.view_is;
      bridge = ap (λ (p : Planner). p.bridgeless) c.self.view_is;
      keeps = c.aim.ensures.keeps;
      refused = on_err_map c.aim.result (λ e. e ∙ ap (λ (p : Planner). p.aims) c.self.view_is) c.aim.ensures.refused;
    }

pub returns-in-None : goal.returns-in-None
returns-in-None g c = record {
  goals = ap (λ (o : Option (ℕ × ℕ)). begun_goals o (goals_of c.args.self.now.aims)) (sym c.in-None.is ∙ c.first_goal.ensures);
  on = c.requires.may.aimed.on;
  size = refl;
  bridge = refl;
  keeps = c.requires.may.aimed.kept;
  refused = tt;
}
