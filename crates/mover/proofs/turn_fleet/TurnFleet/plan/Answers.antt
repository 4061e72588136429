use Rattle.std.proofs.Common.{arith, ◌≡◌, ◌++◌, ◌≤◌, ◌∙◌, ℕ, List, Option, length, take, drop, vec_capacity, ap, sym, subst}
use Rattle.std.proofs.Math.Seq.{take-append_seam}
use Rattle.fleet_planner.specs.Aimed.{IsAimed}
use Rattle.fleet_planner.specs.Courses.{goals_of}
use Rattle.fleet_planner.proofs.Merged.{still_goals}
use Rattle.fleet_history.proofs.Legal.{legal-opening}
use Rattle.fleet_state.proofs.Parts.{cell-count, queue-count, robots-few}
use Rattle.mover.specs.Moving.{AreTurnsOf}
use Rattle.mover.specs.inside.Turning.{TurnFleet, planner_of}
use Rattle.mover.proofs.Ready.{planner-for, ready-for, size-kept, turn-as}
use Rattle.mover.proofs.turn_fleet.TurnFleet.plan.Goals as goal

-- a list that was written whole
whole : {X : Type 0} (n : ℕ) (new old : List X) → n ≡ length new → take n (new ++ drop (length new) old) ≡ new
whole n new old e =
    ap (λ k. take k (new ++ drop (length new) old)) e ∙ take-append_seam new (drop (length new) old)

pub overflow_add-fleet : goal.overflow_add-fleet
overflow_add-fleet g c = omega (arith, c.clock.ensures.tick, c.requires.early)

pub plan-requires-clause-few : goal.plan-requires-clause-few
plan-requires-clause-few g c = omega (arith, ap length c.place.ensures.cells, cell-count c.requires.may.is, queue-count c.requires.may.is, robots-few c.requires.may.is)

pub plan-requires-clause-tied : goal.plan-requires-clause-tied
plan-requires-clause-tied g c = omega (arith, c.requires.tied, ap length c.place.ensures.cells, cell-count c.requires.may.is, queue-count c.requires.may.is)

pub plan-requires-clause-planner : goal.plan-requires-clause-planner
plan-requires-clause-planner g c =
    let may = c.requires.may in
    let m = c.args.grid.now in
    let a = subst (λ (f : TurnFleet). IsAimed m may.history (planner_of f)) (sym c.self.view_is) may.aimed in
    let turns = subst (λ (f : TurnFleet). AreTurnsOf m (length c.args.state.now.queues) f.turns) (sym c.self.view_is) c.requires.turns in
    planner-for (length c.place.result.now) may.is a turns (ap length c.place.ensures.cells ∙ cell-count may.is ∙ sym (queue-count may.is))

pub plan-requires-clause-ready : goal.plan-requires-clause-ready
plan-requires-clause-ready g c =
    let may = c.requires.may in
    let a = subst (λ (f : TurnFleet). IsAimed c.args.grid.now may.history (planner_of f)) (sym c.self.view_is) may.aimed in
    rw (c.place.ensures.cells, c.waits.ensures.waits) (ready-for (record { turns = c.self.inside.planner.turns; aims = c.self.inside.planner.courses; size = c.self.inside.planner.stepper; kept = c.self.inside.cache }) may.is a c.requires.early)

pub invariant_of-self : goal.invariant_of-self
invariant_of-self g c = subst (λ (goals : List (Option ℕ)). length goals ≤ vec_capacity c.self.inside.changes) (sym (still_goals c.plan.ensures.still)) c.self.invariant

pub returns-in_err-_lending-clause-size : goal.returns-in_err-_lending-clause-size
returns-in_err-_lending-clause-size g c =
    let may = c.requires.may in
    size-kept c.args.self.now (length c.place.result.now) c.plan.new.self may.is may.aimed (ap length c.place.ensures.cells ∙ cell-count may.is ∙ sym (queue-count may.is)) c.plan.ensures.planner

pub returns : goal.returns
returns g c =
    let may = c.requires.may in
    let a = subst (λ (f : TurnFleet). IsAimed c.args.grid.now may.history (planner_of f)) (sym c.self.view_is) may.aimed in
    let many : c.in_ok-to.to.len ≡ length c.plan.new.to = omega (arith, c.in_ok-to.to.ok.0, c.plan.auto.to, ap length c.as_mut_slice.ensures.value) in
    record {
      turns = c.plan.ensures.turns ∙ ap (λ (f : TurnFleet). f.turns) c.self.view_is;
      goals = still_goals c.plan.ensures.still ∙ ap (λ (f : TurnFleet). goals_of f.aims) c.self.view_is;
      on = c.plan.ensures.planner.on;
      size = size-kept c.args.self.now (length c.place.result.now) c.plan.new.self may.is may.aimed (ap length c.place.ensures.cells ∙ cell-count may.is ∙ sym (queue-count may.is)) c.plan.ensures.planner;
      keeps = a.kept;
      planned = (
        c.in_ok-_lending._lending,
        turn-as _ _ _ _ _ _ _ _ _ _ (ap (λ (f : TurnFleet). f.turns) c.self.view_is) (ap (λ (f : TurnFleet). goals_of f.aims) c.self.view_is) c.waits.ensures.waits c.place.ensures.cells
            (whole c.in_ok-to.to.len c.plan.new.to c.in_ok-to.to.items many) c.in_ok-_lending.ensures.turn,
      );
    }
