use Rattle.std.proofs.Common.{arith, ◌≡◌, ◌≤◌, ◌∙◌, ℕ, List, Option, length, vec_capacity, ap, sym, subst}
use Rattle.fleet_planner.specs.Courses.{goals_of}
use Rattle.fleet_planner.proofs.Merged.{still_goals}
use Rattle.fleet_history.specs.History.{robots}
use Rattle.fleet_history.proofs.Legal.{legal-opening, legal-placement}
use Rattle.fleet_planner.proofs.Goals.{kept_goals}
use Rattle.fleet_state.proofs.Parts.{cell-count, cells-of, queue-count, wait-count, waits-of}
use Rattle.fleet_planner.specs.Aimed.{Planner, IsAimed}
use Rattle.fleet_planner.proofs.planner.Planner.plan.Goals as goal

pub plan-requires-clause-placed : goal.plan-requires-clause-placed
plan-requires-clause-placed g c = let may = c.requires.may in rw (c.place.ensures.cells, cells-of may.is) (legal-placement c.args.grid.now may.history may.is.legal)

pub plan-requires-clause-few : goal.plan-requires-clause-few
plan-requires-clause-few g c =
    let may = c.requires.may in
    omega (arith, ap length c.place.ensures.cells, cell-count may.is, (legal-opening c.args.grid.now may.history may.is.legal).few_robots)

pub plan-requires-clause-waited : goal.plan-requires-clause-waited
plan-requires-clause-waited g c = omega (arith, ap length c.waits.ensures.waits, ap length c.place.ensures.cells, wait-count c.requires.may.is, cell-count c.requires.may.is)

pub plan-requires-clause-tied : goal.plan-requires-clause-tied
plan-requires-clause-tied g c = omega (arith, c.requires.tied, ap length c.place.ensures.cells, cell-count c.requires.may.is, queue-count c.requires.may.is)

pub plan-requires-clause-made : goal.plan-requires-clause-made
plan-requires-clause-made g c =
    let may = c.requires.may in
    let a = subst (IsAimed c.args.grid.now may.history) (sym c.self.view_is) may.aimed in
    let many : robots may.history ≡ length c.place.result.now = omega (arith, ap length c.place.ensures.cells, cell-count may.is) in
    a.sized ∙ ap (λ (n : ℕ). record { cells = length c.args.grid.now.letters; robots = n }) many

pub plan-requires-clause-goals : goal.plan-requires-clause-goals
plan-requires-clause-goals g c =
    let may = c.requires.may in
    let a = subst (IsAimed c.args.grid.now may.history) (sym c.self.view_is) may.aimed in
    rw (c.place.ensures.cells, cells-of may.is, c.waits.ensures.waits, waits-of may.is) (kept_goals c.args.grid.now may.history c.self.inside.aims may.is.legal a.aimed)

pub plan-requires-clause-on : goal.plan-requires-clause-on
plan-requires-clause-on g c = (subst (IsAimed c.args.grid.now c.requires.may.history) (sym c.self.view_is) c.requires.may.aimed).on

pub invariant_of-self : goal.invariant_of-self
invariant_of-self g c = subst (λ (goals : List (Option ℕ)). length goals ≤ vec_capacity c.self.inside.turns) (sym (still_goals c.plan.ensures.still)) c.self.invariant

pub returns : goal.returns
returns g c =
    let may = c.requires.may in
    let a = subst (IsAimed c.args.grid.now may.history) (sym c.self.view_is) may.aimed in
    record {
      goals = still_goals c.plan.ensures.still ∙ ap (λ (p : Planner). goals_of p.aims) c.self.view_is;
      on = c.plan.ensures.on;
      size = c.plan.ensures.made ∙ ap (λ (p : Planner). p.size) c.self.view_is;
      bridge = ap (λ (p : Planner). p.bridgeless) c.self.view_is;
      keeps = a.kept;
      conflict_free = rw c.place.ensures.cells at c.plan.ensures.conflict_free;
      planned = rw (c.waits.ensures.waits, c.place.ensures.cells, ap (λ (p : Planner). goals_of p.aims) c.self.view_is) at c.plan.ensures.planned;
    }

pub overflow_add-input : goal.overflow_add-input
overflow_add-input g c = omega (arith, c.clock.ensures.tick, c.requires.early)
