use Rattle.std.proofs.Common.{arith, ◌∙◌, List, length, ap, sym, subst}
use Rattle.fleet_planner.specs.Aimed.{IsAimed}
use Rattle.fleet_planner.specs.Courses.{goals_of}
use Rattle.fleet_planner.specs.Turned.{turned}
use Rattle.fleet_planner.specs.declared.turns.GoalChange.{GoalChange}
use Rattle.fleet_planner.proofs.GoalsKept.{aims-count}
use Rattle.fleet_planner.proofs.GoalChanges.{turns-few, turns-known, turns-floor, turned-goals}
use Rattle.fleet_planner.proofs.Refused.{on_ok_map, on_err_map}
use Rattle.fleet_state.proofs.Parts.{queue-count, robots-few}
use Rattle.fleet_turns.specs.Planning.{TurnPlanner}
use Rattle.mover.specs.Moving.{AreTurnsOf}
use Rattle.mover.specs.inside.Turning.{TurnFleet, planner_of}
use Rattle.mover.proofs.Ready.{planner-for, size-kept}
use Rattle.mover.proofs.turn_fleet.TurnFleet.turn.Goals as goal

pub put_turns-requires-clause-same : goal.put_turns-requires-clause-same
put_turns-requires-clause-same g c = c.requires.same

pub put_turns-requires-clause-few : goal.put_turns-requires-clause-few
put_turns-requires-clause-few g c = omega (arith, c.requires.same, robots-few c.requires.may.is)

pub put_turns-requires-clause-room : goal.put_turns-requires-clause-room
put_turns-requires-clause-room g c =
    let may = c.requires.may in
    let a = subst (λ (f : TurnFleet). IsAimed c.args.grid.now may.history (planner_of f)) (sym c.self.view_is) may.aimed in
    omega (arith, c.requires.same, queue-count may.is, aims-count may.history c.self.inside.planner.courses a.aimed, c.self.invariant)

pub turn-requires-clause-few : goal.turn-requires-clause-few
turn-requires-clause-few g c =
    let queues = c.args.state.now.queues in
    omega (arith, ap length (c.as_slice-changes.ensures.value ∙ c.put_turns.ensures.turns), turns-few queues c.args.to.now (length queues), c.requires.same)

pub turn-requires-clause-known : goal.turn-requires-clause-known
turn-requires-clause-known g c = rw (c.as_slice-changes.ensures.value, c.put_turns.ensures.turns, c.requires.same) (turns-known c.args.state.now.queues c.args.to.now)

pub turn-requires-clause-floor : goal.turn-requires-clause-floor
turn-requires-clause-floor g c = rw (c.as_slice-changes.ensures.value, c.put_turns.ensures.turns) (turns-floor c.requires.may.is c.requires.may.aimed c.args.to.now)

pub turn-requires-clause-planner : goal.turn-requires-clause-planner
turn-requires-clause-planner g c =
    let may = c.requires.may in
    let m = c.args.grid.now in
    let a = subst (λ (f : TurnFleet). IsAimed m may.history (planner_of f)) (sym c.self.view_is) may.aimed in
    let turns = subst (λ (f : TurnFleet). AreTurnsOf m (length c.args.state.now.queues) f.turns) (sym c.self.view_is) c.requires.turns in
    planner-for (length c.args.to.now) may.is a turns c.requires.same

pub turn-requires-clause-keeps : goal.turn-requires-clause-keeps
turn-requires-clause-keeps g c = (subst (λ (f : TurnFleet). IsAimed c.args.grid.now c.requires.may.history (planner_of f)) (sym c.self.view_is) c.requires.may.aimed).kept

pub invariant_of-self : goal.invariant_of-self
invariant_of-self g c =
    let may = c.requires.may in
    let a = subst (λ (f : TurnFleet). IsAimed c.args.grid.now may.history (planner_of f)) (sym c.self.view_is) may.aimed in
    omega (arith, c.turn.ensures.planner.asked, c.requires.same, queue-count may.is, aims-count may.history c.self.inside.planner.courses a.aimed, c.put_turns.ensures.room, c.self.invariant)

pub returns : goal.returns
returns g c =
    let may = c.requires.may in
    let m = c.args.grid.now in
    let a = subst (λ (f : TurnFleet). IsAimed m may.history (planner_of f)) (sym c.self.view_is) may.aimed in
    let changes = c.as_slice-changes.ensures.value ∙ c.put_turns.ensures.turns in
    record {
      turns = c.turn.ensures.turns ∙ ap (λ (f : TurnFleet). f.turns) c.self.view_is;
      goals = on_ok_map c.turn.result (λ e. e ∙ (ap (λ (ts : List GoalChange). turned ts (goals_of c.self.inside.planner.courses)) changes ∙ turned-goals may.is a c.args.to.now)) c.turn.ensures.goals;
      on = c.turn.ensures.planner.on;
      size = size-kept c.args.self.now (length c.args.to.now) c.turn.new.self may.is may.aimed c.requires.same c.turn.ensures.planner;
      keeps = c.turn.ensures.keeps;
      refused = on_err_map c.turn.result (λ e. ap (λ (p : TurnPlanner). p.courses) e ∙ ap (λ (f : TurnFleet). f.aims) c.self.view_is) c.turn.ensures.refused;
    }
