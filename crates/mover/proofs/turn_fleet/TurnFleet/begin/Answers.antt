use Rattle.std.proofs.Common.{◌∙◌, ℕ, List, length, Option, Some, refl, ap, arith, sym}
use Rattle.fleet_planner.specs.Courses.{goals_of}
use Rattle.fleet_planner.specs.Aimed.{begun_goals}
use Rattle.fleet_planner.proofs.GoalsKept.{begun-known}
use Rattle.fleet_planner.proofs.Refused.{on_ok_map}
use Rattle.fleet_history.proofs.Legal.{accepted-robot}
use Rattle.fleet_state.proofs.Parts.{cell-count, queue-count}
use Rattle.mover.proofs.Ready.{planner-for, size-kept}
use Rattle.mover.specs.inside.Turning.{turn_planner}
use Rattle.mover.proofs.turn_fleet.TurnFleet.begin.Goals as goal

pub first_goal-requires : goal.first_goal-requires
first_goal-requires g c robot cell n goes accepted =
    let may = c.requires.may.may in
    omega (arith, queue-count may.is, accepted-robot c.args.grid.now may.history c.requires.may.client n robot cell (rw (goes, accepted) at c.requires.may.verdict))

pub aim-requires-clause-known : goal.aim-requires-clause-known
aim-requires-clause-known g c =
    let may = c.requires.may.may in
    let first = begun-known c.args.grid.now may.history c.args.state.now.queues c.requires.may.client c.args.order c.args.verdict c.in-Some.robot c.in-Some.cell c.requires.may.verdict (sym c.first_goal.ensures ∙ c.in-Some.is) in
    omega (arith, first.0, ap (λ (cells : List ℕ). length cells) c.place.ensures.cells, cell-count may.is)

pub aim-requires-clause-floor : goal.aim-requires-clause-floor
aim-requires-clause-floor g c =
    let r = c.requires.may in
    (begun-known c.args.grid.now r.may.history c.args.state.now.queues r.client c.args.order c.args.verdict c.in-Some.robot c.in-Some.cell r.verdict (sym c.first_goal.ensures ∙ c.in-Some.is)).1

pub aim-requires-clause-planner : goal.aim-requires-clause-planner
aim-requires-clause-planner g c =
    let may = c.requires.may.may in
    planner-for (length c.place.result.now) may.is may.aimed c.requires.turns (ap (λ (cells : List ℕ). length cells) c.place.ensures.cells ∙ cell-count may.is ∙ sym (queue-count may.is))

pub aim-requires-clause-keeps : goal.aim-requires-clause-keeps
aim-requires-clause-keeps g c = c.requires.may.may.aimed.kept

pub returns-in-Some : goal.returns-in-Some
returns-in-Some g c =
    let may = c.requires.may.may in
    record {
      turns = c.aim.ensures.turns;
      goals = on_ok_map c.aim.result (λ e. e ∙ ap (λ (o : Option (ℕ × ℕ)). begun_goals o (goals_of c.args.self.now.aims)) (sym c.in-Some.is ∙ c.first_goal.ensures)) c.aim.ensures.goals;
      on = c.aim.ensures.planner.on;
      size = size-kept c.args.self.now (length c.place.result.now) (turn_planner c.aim.new.self) may.is may.aimed (ap (λ (cells : List ℕ). length cells) c.place.ensures.cells ∙ cell-count may.is ∙ sym (queue-count may.is)) c.aim.ensures.planner;
      keeps = c.aim.ensures.keeps;
      refused = c.aim.ensures.refused;
    }

pub returns-in-None : goal.returns-in-None
returns-in-None g c = record {
  turns = refl;
  goals = ap (λ (o : Option (ℕ × ℕ)). begun_goals o (goals_of c.args.self.now.aims)) (sym c.in-None.is ∙ c.first_goal.ensures);
  on = c.requires.may.may.aimed.on;
  size = refl;
  keeps = c.requires.may.may.aimed.kept;
  refused = tt;
}
