use Rattle.std.proofs.Common.{◌∙◌, length, Some, ap, sym, subst, arith}
use Rattle.std.specs.Prelude.{slice_set}
use Rattle.fleet_field.specs.Store.{Keeps}
use Rattle.fleet_planner.specs.Courses.{goals_of}
use Rattle.fleet_planner.specs.Turned.{turned}
use Rattle.fleet_planner.proofs.Refused.{on_ok_map, on_err_map}
use Rattle.fleet_turns.specs.Planning.{TurnPlanner, IsPlannerOf}
use Rattle.mover.specs.inside.Turning.{TurnFleet, turn_planner}
use Rattle.mover.proofs.turn_fleet.TurnFleet.aim.Goals as goal

pub turn-requires-clause-planner : goal.turn-requires-clause-planner
turn-requires-clause-planner g c = subst (λ (f : TurnFleet). IsPlannerOf c.args.grid.now (length c.args.cells.now) (turn_planner f)) (sym c.self.view_is) c.requires.planner

pub turn-requires-clause-keeps : goal.turn-requires-clause-keeps
turn-requires-clause-keeps g c = subst (λ (f : TurnFleet). Keeps c.args.grid.now f.kept) (sym c.self.view_is) c.requires.keeps

pub invariant_of-self : goal.invariant_of-self
invariant_of-self g c =
    let before = subst (λ (f : TurnFleet). IsPlannerOf c.args.grid.now (length c.args.cells.now) (turn_planner f)) (sym c.self.view_is) c.requires.planner in
    omega (arith, c.turn.ensures.planner.asked, before.asked, c.self.invariant)

pub returns : goal.returns
unfolding turned
returns g c = record {
  planner = c.turn.ensures.planner;
  turns = c.turn.ensures.turns ∙ ap (λ (f : TurnFleet). f.turns) c.self.view_is;
  keeps = c.turn.ensures.keeps;
  goals = on_ok_map c.turn.result (λ e. e ∙ ap (λ (f : TurnFleet). slice_set (goals_of f.aims) c.args.robot (Some c.args.goal)) c.self.view_is) c.turn.ensures.goals;
  refused = on_err_map c.turn.result (λ e. ap (λ (p : TurnPlanner). p.courses) e ∙ ap (λ (f : TurnFleet). f.aims) c.self.view_is) c.turn.ensures.refused;
}
