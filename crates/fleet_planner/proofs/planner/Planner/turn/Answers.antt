use Rattle.std.proofs.Common.{arith, ◌∙◌, List, length, ap, sym, subst}
use Rattle.fleet_planner.specs.Courses.{goals_of}
use Rattle.fleet_planner.specs.Turned.{turned}
use Rattle.fleet_planner.specs.declared.turns.GoalChange.{GoalChange}
use Rattle.fleet_state.proofs.Parts.{queue-count, robots-few}
use Rattle.fleet_planner.specs.Aimed.{Planner, IsAimed}
use Rattle.fleet_planner.proofs.GoalsKept.{aims-count}
use Rattle.fleet_planner.proofs.GoalChanges.{turns-few, turns-known, turns-floor, turned-goals}
use Rattle.fleet_planner.proofs.Refused.{on_ok_map, on_err_map}
use Rattle.fleet_planner.proofs.planner.Planner.turn.Goals as goal

pub put_turns-requires-clause-few : goal.put_turns-requires-clause-few
put_turns-requires-clause-few g c = omega (arith, c.requires.same, robots-few c.requires.may.is)

pub put_turns-requires-clause-room : goal.put_turns-requires-clause-room
put_turns-requires-clause-room g c =
    let may = c.requires.may in
    let a = subst (IsAimed c.args.grid.now may.history) (sym c.self.view_is) may.aimed in
    omega (arith, c.requires.same, queue-count may.is, aims-count may.history c.self.inside.aims a.aimed, c.self.invariant)

pub turn-requires-clause-few : goal.turn-requires-clause-few
turn-requires-clause-few g c =
    let may = c.requires.may in
    let queues = c.args.state.now.queues in
    let a = subst (IsAimed c.args.grid.now may.history) (sym c.self.view_is) may.aimed in
    omega (arith, ap length (c.as_slice.ensures.value ∙ c.put_turns.ensures.turns), turns-few queues c.args.to.now (length queues), queue-count may.is, aims-count may.history c.self.inside.aims a.aimed)

pub turn-requires-clause-known : goal.turn-requires-clause-known
turn-requires-clause-known g c =
    let may = c.requires.may in
    let queues = c.args.state.now.queues in
    let a = subst (IsAimed c.args.grid.now may.history) (sym c.self.view_is) may.aimed in
    let many = queue-count may.is ∙ sym (aims-count may.history c.self.inside.aims a.aimed) in
    rw (c.as_slice.ensures.value, c.put_turns.ensures.turns, sym many) (turns-known queues c.args.to.now)

pub turn-requires-clause-floor : goal.turn-requires-clause-floor
turn-requires-clause-floor g c =
    let may = c.requires.may in
    rw (c.as_slice.ensures.value, c.put_turns.ensures.turns) (turns-floor may.is may.aimed c.args.to.now)

pub turn-requires-clause-cells : goal.turn-requires-clause-cells
turn-requires-clause-cells g c =
    let may = c.requires.may in
    let a = subst (IsAimed c.args.grid.now may.history) (sym c.self.view_is) may.aimed in
    omega (arith, aims-count may.history c.self.inside.aims a.aimed, c.requires.same, queue-count may.is)

pub turn-requires-clause-on : goal.turn-requires-clause-on
turn-requires-clause-on g c =
    let may = c.requires.may in
    let a = subst (IsAimed c.args.grid.now may.history) (sym c.self.view_is) may.aimed in a.on

pub returns-clause-goals : goal.returns-clause-goals
returns-clause-goals g c =
    let may = c.requires.may in
    let a = subst (IsAimed c.args.grid.now may.history) (sym c.self.view_is) may.aimed in
    let turns = c.as_slice.ensures.value ∙ c.put_turns.ensures.turns in
    on_ok_map c.turn.result (λ e. e ∙ (ap (λ (ts : List GoalChange). turned ts (goals_of c.self.inside.aims)) turns ∙ turned-goals may.is a c.args.to.now)) c.turn.ensures.goals

pub put_turns-requires-clause-same : goal.put_turns-requires-clause-same
put_turns-requires-clause-same g c = c.requires.same

pub turn-requires-clause-keeps : goal.turn-requires-clause-keeps
turn-requires-clause-keeps g c =
    let may = c.requires.may in
    let a = subst (IsAimed c.args.grid.now may.history) (sym c.self.view_is) may.aimed in a.kept

pub invariant_of-self : goal.invariant_of-self
invariant_of-self g c = omega (arith, c.turn.ensures.count, c.put_turns.ensures.room, c.self.invariant)

pub returns-clause-on : goal.returns-clause-on
returns-clause-on g c = c.turn.ensures.on

pub returns-clause-size : goal.returns-clause-size
returns-clause-size g c = ap (λ (p : Planner). p.size) c.self.view_is

pub returns-clause-bridge : goal.returns-clause-bridge
returns-clause-bridge g c = ap (λ (p : Planner). p.bridgeless) c.self.view_is

pub returns-clause-keeps : goal.returns-clause-keeps
returns-clause-keeps g c = c.turn.ensures.keeps

pub returns-clause-refused : goal.returns-clause-refused
returns-clause-refused g c = on_err_map c.turn.result (λ e. e ∙ ap (λ (p : Planner). p.aims) c.self.view_is) c.turn.ensures.refused
